-- Lists of values that are read one value after another: where one is not there the octets are no list of values.
use Rattle.std.proofs.Common.{◌≡◌, ◌≢◌, ◌<◌, ℕ, true, false, List, [], ◌++◌, length, drop, refl, sym, ap, ◌∙◌, arith}
use Rattle.std.proofs.Common.{append_assoc, append-nil, length-drop}
use Rattle.std.proofs.lemmas.List.{take-append-drop}
use Rattle.rpki_der.specs.declared.error.DecodeError.{DecodeError}
use Rattle.rpki_der.specs.Header.{tlv}
use Rattle.rpki_der.specs.Members.{Members, Empty, Primitive, Constructed, spell, HaveHeaders, IsValue, IsValueList}
use Rattle.rpki_der.specs.ValueListLaws.{primitive_value}
use Rattle.rpki_der.specs.Index.{Entry}
use Rattle.rpki_der.specs.NestedFault.{IsNestedFault}
use Rattle.rpki_der.proofs.MembersLaws.{same-value, not-nothing}
use Rattle.rpki_der.proofs.NestedFaultLaws.{fault-or-value}
use Rattle.rpki_der.proofs.IndexLaws.{IsIndexed}

-- what follows the first values of a list are values
pub record IsRest (rest : List ℕ) : Type 0 where
  pub members : Members
  pub legal : HaveHeaders members
  pub spelled : rest ≡ spell members

grouped : (t r rest : List ℕ) (w : List ℕ) → (t ++ r) ++ rest ≡ w → t ++ (r ++ rest) ≡ w
grouped t r rest w e = sym (append_assoc t r rest) ∙ e

pub rest-of-list : (vs ws : Members) (rest : List ℕ) → HaveHeaders vs → HaveHeaders ws → spell vs ++ rest ≡ spell ws
    → IsRest rest
rest-of-list Empty ws rest h h' e = record { members = ws; legal = h'; spelled = e }
rest-of-list (Primitive t c r) Empty rest h h' e =
    absurd (not-nothing t false c (spell r ++ rest) (sym (grouped (tlv t false c) (spell r) rest [] e)))
rest-of-list (Constructed t ms r) Empty rest h h' e = absurd
    (not-nothing t true (spell ms) (spell r ++ rest) (sym (grouped (tlv t true (spell ms)) (spell r) rest [] e)))
rest-of-list (Primitive t c r) (Primitive t' c' r') rest h h' e =
    let same = same-value t t' false false c c' (spell r ++ rest) (spell r') h.0 h'.0
    (grouped (tlv t false c) (spell r) rest _ e) in
    rest-of-list r r' rest h.1 h'.1 same.rest
rest-of-list (Primitive t c r) (Constructed t' ms' r') rest h h' e =
    let same = same-value t t' false true c (spell ms') (spell r ++ rest) (spell r') h.0 h'.0
    (grouped (tlv t false c) (spell r) rest _ e) in
    absurd (cc (same.form))
rest-of-list (Constructed t ms r) (Primitive t' c' r') rest h h' e =
    let same = same-value t t' true false (spell ms) c' (spell r ++ rest) (spell r') h.0 h'.0
    (grouped (tlv t true (spell ms)) (spell r) rest _ e) in
    absurd (cc (same.form))
rest-of-list (Constructed t ms r) (Constructed t' ms' r') rest h h' e =
    let same = same-value t t' true true (spell ms) (spell ms') (spell r ++ rest) (spell r') h.0 h'.0
    (grouped (tlv t true (spell ms)) (spell r) rest _ e) in
    rest-of-list r r' rest h.2 h'.2 same.rest

constructed-alone : (t : _) (ms : Members) → HaveHeaders (Constructed t ms Empty) → IsValue (tlv t true (spell ms))
constructed-alone t ms h = record {
  members = Constructed t ms Empty;
  legal = h;
  spelled = sym
      (append-nil (tlv t true (spell ms)));
  counted = refl;
}

-- a list of values begins with no fault
no-fault-at-list : (us : Members) (e : DecodeError) → HaveHeaders us → spell us ≢ [] → IsNestedFault (spell us) e → ⊥
no-fault-at-list Empty e h some f = some refl
no-fault-at-list (Primitive t c r) e h some f = fault-or-value (spell r) f (primitive_value t c h.0.0 h.0.1) refl
no-fault-at-list (Constructed t ms r) e h some f =
    fault-or-value (spell r) f (constructed-alone t ms (h.0, h.1, tt)) refl

-- where values were read up to a place, and what follows is none, the octets are no list of values
pub no-list : (octets : List ℕ) (place : ℕ) (index : List Entry) (e : DecodeError) → IsIndexed octets place index
    → place < length octets → IsNestedFault (drop place octets) e → IsValueList octets → ⊥
no-list octets place index e i more f (k, v) =
    let r = i.read in
    let whole : spell r.members ++ drop place octets ≡ spell v.members = ap (λ (x : List ℕ). x ++ drop place octets)
    (sym r.spelled) ∙ take-append-drop place octets ∙ v.spelled in
    let rest = rest-of-list r.members v.members (drop place octets) r.legal v.legal whole in
    no-fault-at-list rest.members e rest.legal
    (λ z. omega (arith, more, length-drop place octets, ap length rest.spelled, ap length z)) (rw (← rest.spelled) f)
