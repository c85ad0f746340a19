use Rattle.std.proofs.Common.{◌≡◌, ◌∙◌, ◌+◌, ◌<◌, ℕ, List, [], Bor, length, get_or, arith}
use Rattle.std.proofs.lemmas.List.{get_or_default}
use Rattle.rpkicert.specs.Output.{numbered, IsSeenIn}
use Rattle.rpkicert.specs.OutputView.{parts_of}
use Rattle.rpkicert.specs.RequirementsView.{terms_of}
use Rattle.rpkicert.proofs.SeenLaws.{seen-one}
use Rattle.rpkicert.proofs.files.seen_each.Goals as goal

-- what is read past the last text
abbrev slot : Bor (List ℕ)
slot = record { ref_ptr = (0, 0); now = [] }

pub loop-at-preserved : goal.loop-at-preserved
loop-at-preserved c =
    let texts = c.args.texts.now in
    let i = c.loop-at.at in
    let text = get_or texts i slot in
    let lt : i < length texts = omega arith in
    let name = c.as_str.ensures.value ∙ c.in_ok-own.ensures in
    let input : c.in_ok-input.input.items ≡ text.now = c.in_ok-input.ensures.items in
    let one : IsSeenIn c.args.check c.args.form (terms_of c.args.terms.now) (numbered c.args.name.now (i + 1)) text.now
    (parts_of c.in_ok-one.one) = rw (name, input) at c.in_ok-one.ensures in
    seen-one (λ t. t.now) (IsSeenIn c.args.check c.args.form (terms_of c.args.terms.now)) c.args.name.now texts i text
    (parts_of c.loop-at.all) (parts_of c.in_ok-one.one) (parts_of c.add.new.all) lt
    (get_or_default texts i slot text lt) c.loop-at.invariant one c.in_ok-add.ensures
