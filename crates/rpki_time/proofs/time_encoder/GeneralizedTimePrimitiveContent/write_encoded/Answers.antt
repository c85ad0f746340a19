use Rattle.std.proofs.Common.{List, ℕ, ap, subst, ◌∙◌}
use Rattle.rpki_der.specs.Written.{WritesOrCuts}
use Rattle.rpki_der.proofs.WritingLaws.{writes_of_cut}
use Rattle.rpki_time.specs.TimeText.{generalized_text}
use Rattle.rpki_time.proofs.time_encoder.GeneralizedTimePrimitiveContent.write_encoded.Goals as goal

pub returns : goal.returns
returns g c =
    let same = c.generalized_text.ensures.text ∙ ap generalized_text c.self.view_is in
    let P : List ℕ
    → Type 0 = λ x. WritesOrCuts (g.W.Write.contents c.args.out.now) (g.W.Write.contents c.write_whole.new.out)
    c.write_whole.result x in
    writes_of_cut _ _ _ (generalized_text c.args.self.now) (subst P same c.write_whole.ensures)
