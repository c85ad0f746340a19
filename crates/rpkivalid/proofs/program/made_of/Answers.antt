use Rattle.std.proofs.Common.{subst}
use Rattle.rpkivalid.specs.Program.{AreLines, AreTold, IsEntry}
use Rattle.rpkivalid.proofs.program.made_of.Goals as goal

pub returns : goal.returns
returns g c = record {
  report = c.in_ok-ran.ran.report.items;
  of_words = c.in_ok-ran.ensures;
  all = c.in_ok-lines.lines.items;
  lines = subst (λ x. AreLines (g.S.Sources.holds c.args.sources.now) x c.in_ok-lines.lines.items)
      c.as_slice.ensures.value c.in_ok-lines.ensures;
  entry = subst (λ x. IsEntry x c.in_ok-entry.entry.items) c.as_slice-2.ensures.value c.in_ok-entry.ensures;
  told = subst (λ x. AreTold c.args.is_quiet x c.in_ok-told.told.items) c.as_slice-3.ensures.value c.in_ok-told.ensures;
}
