use Rattle.std.proofs.Common.{List, ℕ, ap, subst, ◌∙◌}
use Rattle.rpki_der.specs.Written.{WritesOrCuts}
use Rattle.rpki_der.proofs.WritingLaws.{writes_of_cut}
use Rattle.rpki_time.specs.TimeText.{utc_text}
use Rattle.rpki_time.proofs.time_encoder.UtcTimePrimitiveContent.write_encoded.Goals as goal

pub returns : goal.returns
returns g c =
    let same = c.utc_text.ensures.text ∙ ap utc_text c.self.view_is in
    let P : List ℕ
    → Type 0 = λ x. WritesOrCuts (g.W.Write.contents c.args.out.now) (g.W.Write.contents c.write_whole.new.out)
    c.write_whole.result x in
    writes_of_cut _ _ _ (utc_text c.args.self.now) (subst P same c.write_whole.ensures)
