-- Lists of values, in sequence.
use Rattle.std.specs.Prelude.{◌≡◌, ℕ, Bool, true, false, ◌+◌, ◌<◌, ◌^◌, List, [], ◌++◌, length, refl}
use Rattle.std.proofs.Common.{sym, ap, ◌∙◌, arith, append_assoc, append-nil, lit<}
use Rattle.rpki_der.specs.TagName.{TagName, IsTag, sequence, set, octet_string}
use Rattle.rpki_der.specs.Header.{tlv}
use Rattle.rpki_der.specs.Members.{Members, spell, HaveHeaders, count, AreValues, IsValueList}
use Rattle.rpki_der.specs.Members.Members.{Empty, Primitive, Constructed}

-- members, and then more members
abbrev pub joined : Members → Members → Members
joined Empty more = more
joined (Primitive t c rest) more = Primitive t c (joined rest more)
joined (Constructed t ms rest) more = Constructed t ms (joined rest more)

pub spell-joined : (ms more : Members) → spell (joined ms more) ≡ spell ms ++ spell more
spell-joined Empty more = refl
spell-joined (Primitive t c rest) more = ap (λ (w : List ℕ). tlv t false c ++ w) (spell-joined rest more)
    ∙ sym (append_assoc (tlv t false c) (spell rest) (spell more))
spell-joined (Constructed t ms rest) more =
    ap (λ (w : List ℕ). tlv t true (spell ms) ++ w) (spell-joined rest more)
    ∙ sym (append_assoc (tlv t true (spell ms)) (spell rest) (spell more))

count-joined : (ms more : Members) → count (joined ms more) ≡ count ms + count more
count-joined Empty more = omega arith
count-joined (Primitive t c rest) more = omega (arith, count-joined rest more)
count-joined (Constructed t ms rest) more = omega (arith, count-joined rest more)

pub headers-joined : (ms more : Members) → HaveHeaders ms → HaveHeaders more → HaveHeaders (joined ms more)
headers-joined Empty more p q = q
headers-joined (Primitive t c rest) more p q = (p.0, headers-joined rest more p.1 q)
headers-joined (Constructed t ms rest) more p q = (p.0, p.1, headers-joined rest more p.2 q)

-- values after values
pub values_append : (k n : ℕ) (a b : List ℕ) → AreValues k a → AreValues n b → AreValues (k + n) (a ++ b)
values_append k n a b p q = record {
  members = joined p.members q.members;
  legal = headers-joined p.members q.members p.legal q.legal;
  spelled = ap (λ (w : List ℕ). w ++ b) p.spelled ∙ ap (λ (w : List ℕ). spell p.members ++ w) q.spelled
      ∙ sym (spell-joined p.members q.members);
  counted = count-joined p.members q.members ∙ ap (λ (m : ℕ). m + count q.members) p.counted
      ∙ ap (λ (m : ℕ). k + m) q.counted;
}

-- no octets are no values
pub no_values : AreValues 0 []
no_values = record { members = Empty; legal = tt; spelled = refl; counted = refl }

-- a primitive value
pub primitive_value : (t : TagName) (c : List ℕ) → IsTag t → length c < 2 ^ 32 → AreValues 1 (tlv t false c)
primitive_value t c tag fits = record {
  members = Primitive t c Empty;
  legal = ((tag, fits), tt);
  spelled = sym (append-nil (tlv t false c));
  counted = refl;
}

-- a constructed value around values
pub constructed_value : (t : TagName) (c : List ℕ) → IsTag t → length c < 2 ^ 32 → IsValueList c
    → AreValues 1 (tlv t true c)
constructed_value t c tag fits inside =
    let ms = inside.1.members in
    let same = inside.1.spelled in
    record {
      members = Constructed t ms Empty;
      legal = ((tag, rw (← same) fits), inside.1.legal, tt);
      spelled = ap (λ (w : List ℕ). tlv t true w) same ∙ sym (append-nil (tlv t true (spell ms)));
      counted = refl;
    }

-- a value of one form or the other around values
pub around_value : (t : TagName) (f : Bool) (c : List ℕ) → IsTag t → length c < 2 ^ 32 → IsValueList c
    → AreValues 1 (tlv t f c)
around_value t true c tag fits inside = constructed_value t c tag fits inside
around_value t false c tag fits inside = primitive_value t c tag fits

-- ---- the tags of values around values are legal

pub sequence_legal : IsTag sequence
sequence_legal = record { below = lit< tt; named = λ _. lit< tt }

pub set_legal : IsTag set
set_legal = record { below = lit< tt; named = λ _. lit< tt }

pub octet_string_legal : IsTag octet_string
octet_string_legal = record { below = lit< tt; named = λ _. lit< tt }

-- ---- the same, the count left open

pub no_value_list : IsValueList []
no_value_list = (0, no_values)

pub primitive_value_list : (t : TagName) (c : List ℕ) → IsTag t → length c < 2 ^ 32 → IsValueList (tlv t false c)
primitive_value_list t c tag fits = (1, primitive_value t c tag fits)

pub value_lists_append : (a b : List ℕ) → IsValueList a → IsValueList b → IsValueList (a ++ b)
value_lists_append a b p q = (p.0 + q.0, values_append p.0 q.0 a b p.1 q.1)
