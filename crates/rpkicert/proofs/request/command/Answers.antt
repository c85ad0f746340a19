use Rattle.std.proofs.Common.{◌≡◌, ◌∙◌, ap, ap₂, true}
use Rattle.std.proofs.lemmas.Result.{IfOk-weaker}
use Rattle.clap.specs.Words.{Shape, app_of, with_rule}
use Rattle.clap.specs.declared.builder.command.Command.{Command}
use Rattle.clap.specs.declared.builder.command.Command.TheOpen.{Command-F}
use Rattle.clap.specs.Simple.{app_of_fields, on_top}
use Rattle.rpkicert.specs.Request.{command_alone}
use Rattle.rpkicert.proofs.request.command.Goals as goal

pub returns : goal.returns
returns c =
    let alone : app_of c.disable_help_flag.result ≡ command_alone =
    ap app_of_fields (c.disable_help_flag.ensures
    ∙ ap (λ (f : Command-F Command). record f { disable_help_flag = true }) c.no_binary_name.ensures)
    ∙ ap (on_top (λ (s : Shape). record s { no_binary_name = true; disable_help_flag = true })) c.new.ensures.app in
    let help = c.in_ok-arg.ensures.shape c.lettered.ensures.local ∙ ap₂ with_rule alone c.lettered.ensures.rule in
    let version = c.in_ok-arg-2.ensures.shape c.flag.ensures.local ∙ ap₂ with_rule help c.flag.ensures.rule in
    let json = c.in_ok-arg-3.ensures.shape c.flag-2.ensures.local ∙ ap₂ with_rule version c.flag-2.ensures.rule in
    let check = c.in_ok-arg-4.ensures.shape c.flag-3.ensures.local ∙ ap₂ with_rule json c.flag-3.ensures.rule in
    let lax = c.in_ok-arg-5.ensures.shape c.flag-4.ensures.local ∙ ap₂ with_rule check c.flag-4.ensures.rule in
    let recursive = c.in_ok-arg-6.ensures.shape c.lettered-2.ensures.local
    ∙ ap₂ with_rule lax c.lettered-2.ensures.rule in
    let profile = c.in_ok-arg-7.ensures.shape c.valued.ensures.local ∙ ap₂ with_rule recursive c.valued.ensures.rule in
    let issuer = c.in_ok-arg-8.ensures.shape c.valued-2.ensures.local ∙ ap₂ with_rule profile c.valued-2.ensures.rule in
    let list = c.in_ok-arg-9.ensures.shape c.valued-3.ensures.local ∙ ap₂ with_rule issuer c.valued-3.ensures.rule in
    let moment = c.in_ok-arg-10.ensures.shape c.valued-4.ensures.local ∙ ap₂ with_rule list c.valued-4.ensures.rule in
    IfOk-weaker c.arg-11.result _ _ (λ r h. h.shape c.files_rule.ensures.local
    ∙ ap₂ with_rule moment c.files_rule.ensures.rule) c.arg-11.ensures
