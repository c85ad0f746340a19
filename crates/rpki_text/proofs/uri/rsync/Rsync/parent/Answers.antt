use Rattle.std.proofs.Common.{◌≡◌, List, ℕ, take, sym, ap, ◌∙◌, subst, Some, arith}
use Rattle.std.specs.Option.{is_some}
use Rattle.rpki_text.specs.RsyncText.{parent_uri, uri_of, IsParentEnd}
use Rattle.rpki_text.proofs.MeaningLaws.{parent-there, parent-text}
use Rattle.rpki_text.proofs.ParentEndLaws.{parent_end-cut, parent_end-meaning, parent_none-meaning}
use Rattle.rpki_text.proofs.uri.rsync.Rsync.parent.Goals as goal

-- where the parent of the text ends
ends : (c : goal.In_ok-bytes) → IsParentEnd c.self.inside.bytes c.in-Some.len
ends c = subst (λ (t : List ℕ). IsParentEnd t c.in-Some.len) (c.view.ensures ∙ sym c.self.view_is)
    c.in-Some.ensures.segments

text : (c : goal.In_ok-bytes) → c.in_ok-bytes.bytes ≡ take c.in-Some.len c.self.inside.bytes
text c = c.in_ok-bytes.ensures.ok ∙ ap (λ n. take n c.self.inside.bytes) (omega arith)

pub invariant_of-result : goal.invariant_of-result
invariant_of-result c = rw (text c) (parent_end-cut _ _ _ _ c.self.invariant (ends c))

-- the meaning of the parent
meaning : (c : goal.In_ok-bytes) → Some (uri_of c.in_ok-bytes.bytes) ≡ parent_uri (uri_of c.args.self.now)
meaning c =
    rw (text c, ← c.self.view_is) (parent_end-meaning _ _ _ _ c.self.invariant (ends c))

-- no parent, no meaning of it
pub returns-in_default-clause-meaning : goal.returns-in_default-clause-meaning
returns-in_default-clause-meaning c =
    sym (parent_none-meaning c.args.self.now (rw (← c.view.ensures) c.in_default.ensures.none))

pub returns-in_default-clause-there : goal.returns-in_default-clause-there
returns-in_default-clause-there c =
    ap is_some (sym (parent_none-meaning c.args.self.now (rw (← c.view.ensures) c.in_default.ensures.none))) ∙
    parent-there (uri_of c.args.self.now)

pub returns-clause-meaning : goal.returns-clause-meaning
returns-clause-meaning c = meaning c

pub returns-clause-there : goal.returns-clause-there
returns-clause-there c = ap is_some (meaning c) ∙ parent-there (uri_of c.args.self.now)

pub returns-clause-above : goal.returns-clause-above
returns-clause-above c =
    parent-text c.in_ok-bytes.bytes c.args.self.now _ (text c ∙ ap (take _) c.self.view_is) (meaning c)
