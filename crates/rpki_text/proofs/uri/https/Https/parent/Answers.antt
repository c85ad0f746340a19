use Rattle.std.proofs.Common.{◌≡◌, List, ℕ, take, sym, ap, ◌∙◌, subst, arith, None, Some}
use Rattle.rpki_text.specs.HttpsText.{https_parent_of, https_uri_of, IsHttpsCut, IsHttpsParentEnd}
use Rattle.rpki_text.proofs.HttpsParentEndLaws.{https_end-cut, https_end-text, https_end-meaning, https_none-meaning}
use Rattle.rpki_text.proofs.uri.https.Https.parent.Goals as goal

-- no parent of the text
none : (c : goal.In_default) → https_parent_of c.args.self.now ≡ None
none c = subst (λ (t : List ℕ). https_parent_of t ≡ None) c.cut.ensures.text
    (c.in_default.ensures.none c.cut.ensures.own)

pub returns-in_default-clause-text : goal.returns-in_default-clause-text
returns-in_default-clause-text c = sym (none c)

pub returns-in_default-clause-meaning : goal.returns-in_default-clause-meaning
returns-in_default-clause-meaning c = sym (https_none-meaning c.args.self.now (none c))

-- a text with a parent has not none
there : (t s : List ℕ) (n e : ℕ) → IsHttpsCut t n → t ≡ s → IsHttpsParentEnd s e → https_parent_of s ≡ None → ⊥
there t s n e c v k none =
    let d = subst (λ (x : List ℕ). IsHttpsCut x n) v c in let some = https_end-text s n e d k in cc

-- where the parent of the text ends
ends : (c : goal.In_ok-bytes) → IsHttpsParentEnd c.self.inside.bytes c.in-Some.len
ends c = subst (λ (t : List ℕ). IsHttpsParentEnd t c.in-Some.len) (c.cut.ensures.text ∙ sym c.self.view_is)
    (c.in-Some.ensures.end c.cut.ensures.own)

text : (c : goal.In_ok-bytes) → c.in_ok-bytes.bytes ≡ take c.in-Some.len c.self.inside.bytes
text c = c.in_ok-bytes.ensures.ok ∙ ap (λ n. take n c.self.inside.bytes) (omega arith)

pub returns-in_err-bytes-clause-none : goal.returns-in_err-bytes-clause-none
returns-in_err-bytes-clause-none c h = absurd
    (there c.self.inside.bytes c.args.self.now _ _ c.self.invariant c.self.view_is
    (subst (λ (t : List ℕ). IsHttpsParentEnd t c.in-Some.len) c.cut.ensures.text
    (c.in-Some.ensures.end c.cut.ensures.own)) h)

pub invariant_of-result : goal.invariant_of-result
invariant_of-result c = rw (text c) (https_end-cut _ _ _ c.self.invariant (ends c))

pub returns-clause-text : goal.returns-clause-text
returns-clause-text c = rw (← c.self.view_is) (ap Some (text c) ∙ sym (https_end-text _ _ _ c.self.invariant (ends c)))

pub returns-clause-meaning : goal.returns-clause-meaning
returns-clause-meaning c =
    rw (← c.self.view_is)
    (ap (λ b. Some (https_uri_of b)) (text c) ∙ https_end-meaning _ _ _ c.self.invariant (ends c))

pub returns-clause-none : goal.returns-clause-none
returns-clause-none c h = absurd
    (there c.self.inside.bytes c.args.self.now _ _ c.self.invariant c.self.view_is
    (subst (λ (t : List ℕ). IsHttpsParentEnd t c.in-Some.len) c.cut.ensures.text
    (c.in-Some.ensures.end c.cut.ensures.own)) h)
