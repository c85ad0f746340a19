use Rattle.std.proofs.Common.{rules, List, ℕ, Bool, true, Bor, [], ◌∷◌}
use Rattle.std.specs.Ordering.{nat_cmp}
use Rattle.std.specs.Cmp.Lexicographic.{slice_cmp}
use Rattle.std.specs.BTreeSet as tree
use Rattle.std.proofs.lemmas.Bool.{iff_false}
use Rattle.rpki_der.specs.TagName.{sequence}
use Rattle.rpki_der.proofs.LeafValueLaws.{leaf-shorter}
use Rattle.rpki.specs.ExtensionValue.{IsExtensionContents}
use Rattle.rpki_x509.proofs.FrameLaws.{extension-refused}
use Rattle.rpki_cert.proofs.UniqueLaws.{apart-first, apart-none, apart-end, seen-apart, seen-on, seen-twice}
use Rattle.rpki_cert.proofs.read.extension_list.are_kept_unique.Goals as goal

abbrev contains_in : tree.BTreeSet (Bor (List ℕ)) → Bor (List ℕ) → Bool
contains_in = tree.contains (λ (x y : Bor (List ℕ)). slice_cmp nat_cmp x.now y.now)

pub extensions-init : goal.extensions-init
extensions-init c = ([], λ q. search rules, apart-first _)

pub extensions-smaller : goal.extensions-smaller
extensions-smaller c = leaf-shorter sequence true IsExtensionContents _ _ _ c.in-Ok.ensures.spells

pub returns-then-not-branch-clause-answer : goal.returns-then-not-branch-clause-answer
returns-then-not-branch-clause-answer c =
    let some = iff_false c.is_empty.ensures c.extensions-test.true in
    let key = c.id.result.0 in
    let seen = c.extensions.invariant.0 in
    seen-twice seen _ _ _ c.in-Ok.extension some c.extensions.invariant.2 c.in-Ok.ensures key.now c.id.ensures
    (contains_in c.extensions.seen key) (c.extensions.invariant.1 key) c.in_ok-insert-in-Ok.field-0
    c.in_ok-insert-in-Ok.ensures.added
    c.if-not-branch.true

pub extensions-preserved : goal.extensions-preserved
extensions-preserved c =
    let some = iff_false c.is_empty.ensures c.extensions-test.true in
    let key = c.id.result.0 in
    let seen = c.extensions.invariant.0 in (
      c.in-Ok.extension ∷ seen,
      λ q. seen-on c.in-Ok.extension seen q.now key.now c.id.ensures
          (contains_in c.extensions.seen q) (contains_in c.insert.new.self q) (c.extensions.invariant.1 q)
          (c.in_ok-insert-in-Ok.ensures.updates.0 q),
      seen-apart seen _ _ _ c.in-Ok.extension some c.extensions.invariant.2 c.in-Ok.ensures key.now c.id.ensures
          (contains_in c.extensions.seen key) (c.extensions.invariant.1 key) c.in_ok-insert-in-Ok.field-0
          c.in_ok-insert-in-Ok.ensures.added c.if-not-branch.false,
    )

pub returns-in-Err-clause-answer : goal.returns-in-Err-clause-answer
returns-in-Err-clause-answer c =
    let some = iff_false c.is_empty.ensures c.extensions-test.true in
    apart-none c.extensions.invariant.0 _ _ some c.extensions.invariant.2
    (extension-refused _ _ c.in-Err.field-0 c.in-Err.ensures)

pub returns-clause-answer : goal.returns-clause-answer
returns-clause-answer c =
    apart-end c.extensions.invariant.0 _ _ (c.is_empty.ensures.0 c.extensions-test.false) c.extensions.invariant.2
