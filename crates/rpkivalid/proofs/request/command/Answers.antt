use Rattle.std.proofs.Common.{◌≡◌, ◌∙◌, ap, ap₂, true}
use Rattle.std.proofs.lemmas.Result.{IfOk-weaker}
use Rattle.clap.specs.Words.{Shape, app_of, with_rule}
use Rattle.clap.specs.declared.builder.command.Command.{Command}
use Rattle.clap.specs.declared.builder.command.Command.TheOpen.{Command-F}
use Rattle.clap.specs.Simple.{app_of_fields, on_top}
use Rattle.rpkivalid.specs.Request.{command_alone}
use Rattle.rpkivalid.proofs.request.command.Goals as goal

pub returns : goal.returns
returns c =
    let alone : app_of c.disable_help_flag.result ≡ command_alone =
    ap app_of_fields (c.disable_help_flag.ensures
    ∙ ap (λ (f : Command-F Command). record f { disable_help_flag = true }) c.no_binary_name.ensures)
    ∙ ap (on_top (λ (s : Shape). record s { no_binary_name = true; disable_help_flag = true })) c.new.ensures.app in
    let help = c.in_ok-arg.ensures.shape c.help_flag.ensures.local ∙ ap₂ with_rule alone c.help_flag.ensures.rule in
    let version = c.in_ok-arg-2.ensures.shape c.flag.ensures.local ∙ ap₂ with_rule help c.flag.ensures.rule in
    let strict = c.in_ok-arg-3.ensures.shape c.flag-2.ensures.local ∙ ap₂ with_rule version c.flag-2.ensures.rule in
    let quiet = c.in_ok-arg-4.ensures.shape c.flag-3.ensures.local ∙ ap₂ with_rule strict c.flag-3.ensures.rule in
    let cache = c.in_ok-arg-5.ensures.shape c.valued.ensures.local ∙ ap₂ with_rule quiet c.valued.ensures.rule in
    let moment = c.in_ok-arg-6.ensures.shape c.valued-2.ensures.local ∙ ap₂ with_rule cache c.valued-2.ensures.rule in
    let form = c.in_ok-arg-7.ensures.shape c.valued-3.ensures.local ∙ ap₂ with_rule moment c.valued-3.ensures.rule in
    let output = c.in_ok-arg-8.ensures.shape c.valued-4.ensures.local ∙ ap₂ with_rule form c.valued-4.ensures.rule in
    let log = c.in_ok-arg-9.ensures.shape c.valued-5.ensures.local ∙ ap₂ with_rule output c.valued-5.ensures.rule in
    let depth = c.in_ok-arg-10.ensures.shape c.valued-6.ensures.local ∙ ap₂ with_rule log c.valued-6.ensures.rule in
    let exceptions = c.in_ok-arg-11.ensures.shape c.listed.ensures.local
    ∙ ap₂ with_rule depth c.listed.ensures.rule in
    let metrics = c.in_ok-arg-12.ensures.shape c.valued-7.ensures.local
    ∙ ap₂ with_rule exceptions c.valued-7.ensures.rule in
    let explain = c.in_ok-arg-13.ensures.shape c.valued-8.ensures.local
    ∙ ap₂ with_rule metrics c.valued-8.ensures.rule in
    let number = c.in_ok-arg-14.ensures.shape c.valued-9.ensures.local
    ∙ ap₂ with_rule explain c.valued-9.ensures.rule in
    let compare = c.in_ok-arg-15.ensures.shape c.valued-10.ensures.local
    ∙ ap₂ with_rule number c.valued-10.ensures.rule in
    let least = c.in_ok-arg-16.ensures.shape c.valued-11.ensures.local
    ∙ ap₂ with_rule compare c.valued-11.ensures.rule in
    IfOk-weaker c.arg-17.result _ _ (λ r h. h.shape c.listed-2.ensures.local
    ∙ ap₂ with_rule least c.listed-2.ensures.rule) c.arg-17.ensures
