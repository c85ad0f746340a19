use Rattle.std.proofs.Common.{◌++◌, codes, sym, refl, ap, ◌∙◌}
use Rattle.rpki_text.specs.UriText.{lowercase}
use Rattle.rpki_text.specs.RsyncText.{module_name_of}
use Rattle.rpki_text.proofs.ModuleLaws.{canonical-by, borrowed}
use Rattle.rpki_text.proofs.uri.rsync.Rsync.canonical_module.Goals as goal

pub returns-then-has_no_capital-clause-ok : goal.returns-then-has_no_capital-clause-ok
returns-then-has_no_capital-clause-ok c =
    c.module.ensures ∙ c.site-site.ensures.module ∙ ap (λ s. s ++ module_name_of c.args.self.now ++ codes "/")
    (sym (c.if-has_no_capital.ensures.0 refl))
    ∙ canonical-by c.args.self.now _ c.site-site.ensures.lower

pub returns-clause-ok : goal.returns-clause-ok
returns-clause-ok c =
    rw (
      c.in_ok-push_str-2.ensures.bytes,
      c.in_ok-push_str.ensures.bytes,
      c.make_ascii_lowercase.ensures.bytes,
      c.in_ok-text.ensures.ok,
      c.uri_text.ensures,
      c.module_name.ensures,
    )
    (canonical-by c.args.self.now (lowercase c.site-site.result.now) c.site-site.ensures.lower)

pub returns-in_err-text-clause-free : goal.returns-in_err-text-clause-free
returns-in_err-text-clause-free c =
    borrowed c.args.self.now c.site-site.result.now c.has_no_capital.result c.site-site.ensures.lower
    c.site-site.ensures.module c.has_no_capital.ensures
    c.if-has_no_capital.false

pub returns-in_err-push_str-clause-free : goal.returns-in_err-push_str-clause-free
returns-in_err-push_str-clause-free c =
    borrowed c.args.self.now c.site-site.result.now c.has_no_capital.result c.site-site.ensures.lower
    c.site-site.ensures.module c.has_no_capital.ensures
    c.if-has_no_capital.false

pub returns-in_err-push_str-2-clause-free : goal.returns-in_err-push_str-2-clause-free
returns-in_err-push_str-2-clause-free c =
    borrowed c.args.self.now c.site-site.result.now c.has_no_capital.result c.site-site.ensures.lower
    c.site-site.ensures.module c.has_no_capital.ensures
    c.if-has_no_capital.false
