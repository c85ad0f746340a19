use Rattle.std.proofs.Common.{refl, sym, ◌∙◌}
use Rattle.rpki_der.specs.Prelude.{sequence, around}
use Rattle.rpki_der.proofs.ChoiceLaws.{such-read, such-refused, such-nothing}
use Rattle.rpki_der.proofs.TriedLaws.{tried-refused}
use Rattle.rpki_contents.specs.Roa.{AreFamilies, both_of, each_family, families}
use Rattle.rpki_resources.proofs.ThenByLaws.{stayed}
use Rattle.rpki_contents.proofs.RoaLaws.{some-is, none-is}
use Rattle.rpki_contents.proofs.roa_family.take_families.Goals as goal

pub returns-in_err-listed : goal.returns-in_err-listed
returns-in_err-listed c =
    let strict = c.args.strict in
    tried-refused both_of (families strict).spells (families strict).fault _ _ _ _ c.from_residual.ensures
    (stayed (such-refused (AreFamilies strict) (around sequence each_family) c.in_err-listed.ensures))

pub returns-in-Some : goal.returns-in-Some
returns-in-Some c =
    let is = sym c.in-Some.ensures in
    such-read (AreFamilies c.args.strict) (around sequence each_family) (both_of c.in-Some.found) c.in_ok-listed.ensures
    is (λ w h. some-is (sym h ∙ is))

pub returns-in-None : goal.returns-in-None
returns-in-None c =
    rw c.content.ensures
    (such-nothing (AreFamilies c.args.strict) (around sequence each_family) _ refl c.in_ok-listed.ensures
    (λ w h. none-is (c.in-None.ensures ∙ h)))
