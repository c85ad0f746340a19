use Rattle.std.proofs.Common.{refl}
use Rattle.rpkivalid.specs.RunView.{shown_by}
use Rattle.rpkivalid.proofs.compared.ours_of.Goals as goal

pub returns-clause-found : goal.returns-clause-found
returns-clause-found g c = record {
  shown = shown_by c.in_ok-shown.shown;
  shows = c.in_ok-shown.ensures.shown;
  united = rw c.as_slice.ensures.value at c.in_ok-vrps.ensures;
  lines_are = refl;
  anchored_is = refl;
}
