use Rattle.std.proofs.Common.{◌∙◌, sym}
use Rattle.rpki_der.specs.Fold.FoldFault.{AtValue}
use Rattle.rpki_crl.specs.Crl.{entry_of}
use Rattle.rpki_crl.proofs.EntriesLaws.{looks-found, looks-not}
use Rattle.rpki_crl.proofs.entries.fn.entries_contain.fold_each.Goals as goal

pub returns-then-eq : goal.returns-then-eq
returns-then-eq c = (
  _,
  c.in-Ok.ensures,
  looks-found c.captures.serial c.args.found (entry_of c.in-Ok.entry)
      (sym c.eq.ensures ∙ c.if-eq.true),
)

pub returns-else-eq : goal.returns-else-eq
returns-else-eq c = (
  _,
  c.in-Ok.ensures,
  looks-not c.captures.serial c.args.found (entry_of c.in-Ok.entry)
      (sym c.eq.ensures ∙ c.if-eq.false),
)

pub returns-in-Err : goal.returns-in-Err
returns-in-Err c = λ some. AtValue some c.in-Err.ensures.refuses c.in-Err.ensures.kind
