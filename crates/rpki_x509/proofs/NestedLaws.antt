-- Values with everything nested in them, and values by their headers.
use Rattle.std.proofs.Common.{◌≡◌, ◌≢◌, ◌↔◌, ◌∙◌, ℕ, ◌<◌, Bool, true, false, List, [], ◌∷◌, ◌++◌, length}
use Rattle.std.proofs.Common.{Option, None, Some, Ok, inl, refl, sym, ap, subst, arith, append_assoc, length-append}
use Rattle.std.proofs.lemmas.Bool.{false≢true}
use Rattle.rpki_der.specs.declared.error.DecodeError.{DecodeError}
use Rattle.rpki_der.specs.declared.error.DecodeError.TheVariants.{Truncated}
use Rattle.rpki_der.specs.declared.section.Section.{Section}
use Rattle.rpki_der.specs.TagName.{TagName}
use Rattle.rpki_der.specs.Header.{tlv}
use Rattle.rpki_der.specs.Reading.{Spells, Accepts, Refuses, Refusal, ReadsWhere}
use Rattle.rpki_der.specs.Section.{IsSection}
use Rattle.rpki_der.specs.WantedValue.{SpellsWanted, IsAnyTag}
use Rattle.rpki_der.specs.Members.{Members, Empty, Primitive, Constructed, spell, HaveHeaders, count, IsValue}
use Rattle.rpki_der.specs.Members.{IsValueList, SpellsValue}
use Rattle.rpki_der.specs.NestedFault.{IsNestedFault, IsCaptureFault}
use Rattle.rpki_der.specs.Walk.{IsNotEmpty, SpellsAnyValue}
use Rattle.rpki_der.specs.ValueListLaws.{value_lists_append, no_value_list, primitive_value, constructed_value}
use Rattle.rpki_der.proofs.ComposedLaws.{all-read, nothing-whole, spelled-whole}
use Rattle.rpki_der.proofs.InsideLaws.{unless-memory}
use Rattle.rpki_der.proofs.MembersLaws.{value-some}
use Rattle.rpki_der.proofs.WalkLaws.{nested-no-memory}

-- the tag, the form and the contents of a value
abbrev Parts : Type 0
Parts = TagName × Bool × List ℕ

abbrev Any : Parts → List ℕ → Type 0
Any = SpellsWanted IsAnyTag

-- ---- one value

primitive-one : (t : TagName) (d p : List ℕ) → Any (t, false, d) p → IsValue p
primitive-one t d p h = subst IsValue (sym h.value.octets) (primitive_value t d h.value.tag h.value.fits)

constructed-one : (t : TagName) (d p : List ℕ) → Any (t, true, d) p → IsValueList d → IsValue p
constructed-one t d p h k = subst IsValue (sym h.value.octets) (constructed_value t d h.value.tag h.value.fits k)

-- ---- values, in sequence

-- no value begins what is refused
pub nested-refuses : (s r : List ℕ) (e : DecodeError) → Refusal SpellsAnyValue IsNestedFault s r e
    → Refuses SpellsAnyValue s
nested-refuses s r e h = unless-memory e (λ z. nested-no-memory (subst (IsNestedFault s) z h.kind)) h.refuses

primitive-front : (s : List ℕ) (t : TagName) (c : List ℕ) (rest : Members) → HaveHeaders (Primitive t c rest)
    → s ≡ spell (Primitive t c rest) → Spells SpellsAnyValue s tt (spell rest)
primitive-front s t c rest h e =
    record { front = tlv t false c; parts = e; spelled = primitive_value t c h.0.0 h.0.1 }

constructed-front : (s : List ℕ) (t : TagName) (ms rest : Members) → HaveHeaders (Constructed t ms rest)
    → s ≡ spell (Constructed t ms rest) → Spells SpellsAnyValue s tt (spell rest)
constructed-front s t ms rest h e = record {
  front = tlv t true (spell ms);
  parts = e;
  spelled = constructed_value t (spell ms) h.0.0 h.0.1
      (count ms, record { members = ms; legal = h.1; spelled = refl; counted = refl });
}

list-of : (ms : Members) → HaveHeaders ms → IsValueList (spell ms)
list-of ms h = (count ms, record { members = ms; legal = h; spelled = refl; counted = refl })

pub list-behind : (s r : List ℕ) → Accepts SpellsAnyValue s tt r → IsValueList s → IsValueList r
list-behind s r a h = go h.1.members h.1.legal h.1.spelled
  where
    go : (ms : Members) → HaveHeaders ms → s ≡ spell ms → IsValueList r
    go Empty l e = absurd (omega (
      arith,
      value-some a.spells.spelled,
      ap length (sym e ∙ a.spells.parts),
      length-append a.spells.front r,
    ))
    go (Primitive t c rest) l e = subst IsValueList (a.only tt (spell rest) (primitive-front s t c rest l e)).1
        (list-of rest l.1)
    go (Constructed t ms rest) l e =
        subst IsValueList (a.only tt (spell rest) (constructed-front s t ms rest l e)).1 (list-of rest l.2)

pub list-before : (s r : List ℕ) → Accepts SpellsAnyValue s tt r → IsValueList r → IsValueList s
list-before s r a h = subst IsValueList (sym a.spells.parts)
    (value_lists_append a.spells.front r (1, a.spells.spelled) h)

pub list-none : (s : List ℕ) → s ≢ [] → Refuses SpellsAnyValue s → IsValueList s → ⊥
list-none s some none h = go h.1.members h.1.legal h.1.spelled
  where
    go : (ms : Members) → HaveHeaders ms → s ≡ spell ms → ⊥
    go Empty l e = some e
    go (Primitive t c rest) l e = none tt (spell rest) (primitive-front s t c rest l e)
    go (Constructed t ms rest) l e = none tt (spell rest) (constructed-front s t ms rest l e)

pub list-end : (s : List ℕ) → ((s ≡ [] → ⊥) → ⊥) → IsValueList s
list-end [] h = no_value_list
list-end (x ∷ s) h = absurd (h (λ e. cc))

pub any-shorter : (s r : List ℕ) → Accepts SpellsAnyValue s tt r → length r < length s
any-shorter s r a =
    omega (arith, value-some a.spells.spelled, ap length a.spells.parts, length-append a.spells.front r)

-- ---- a value by its header

value-front : (s v r : List ℕ) (x : Parts) (q : List ℕ) → Accepts Any s x q → s ≡ v ++ r → (ms : Members)
    → HaveHeaders ms → v ≡ spell ms → count ms ≡ 1 → x.1 ≡ true → IsValueList x.2
value-front s v r x q a e Empty h is one z = absurd (omega (arith, one))
value-front s v r x q a e (Primitive t c rest) h is one z =
    let same = a.only (t, false, c) (spell rest ++ r) (record {
      front = tlv t false c;
      parts = e ∙ ap (λ (y : List ℕ). y ++ r) is ∙ append_assoc (tlv t false c) (spell rest) r;
      spelled = record { wanted = tt; value = record { tag = h.0.0; fits = h.0.1; octets = refl } };
    }) in
    absurd (false≢true (ap (λ (y : Parts). y.1) same.0 ∙ z))
value-front s v r x q a e (Constructed t ms rest) h is one z =
    let same = a.only (t, true, spell ms) (spell rest ++ r) (record {
      front = tlv t true (spell ms);
      parts = e ∙ ap (λ (y : List ℕ). y ++ r) is ∙ append_assoc (tlv t true (spell ms)) (spell rest) r;
      spelled = record { wanted = tt; value = record { tag = h.0.0; fits = h.0.1; octets = refl } };
    }) in
    subst IsValueList (ap (λ (y : Parts). y.2) same.0)
    (count ms, record { members = ms; legal = h.1; spelled = refl; counted = refl })

-- its contents are no values
pub value-not : (s d q : List ℕ) (t : TagName) → Accepts Any s (t, true, d) q → (IsValueList d → ⊥)
    → Refuses SpellsValue s
value-not s d q t a none v r h =
    let k = h.spelled.value in
    none (value-front s v r (t, true, d) q a (h.parts ∙ ap (λ (y : List ℕ). y ++ r) h.spelled.same) k.members k.legal
    k.spelled k.counted refl)

-- no header is there
pub value-missing : (s : List ℕ) → Refuses Any s → Refuses SpellsValue s
value-missing s none v r h = go k.members k.legal k.spelled k.counted
  where
    k : IsValue v
    k = h.spelled.value

    whole : s ≡ v ++ r
    whole = h.parts ∙ ap (λ (y : List ℕ). y ++ r) h.spelled.same

    go : (ms : Members) → HaveHeaders ms → v ≡ spell ms → count ms ≡ 1 → ⊥
    go Empty l is one = omega (arith, one)
    go (Primitive t c rest) l is one = none (t, false, c) (spell rest ++ r) (record {
      front = tlv t false c;
      parts = whole ∙ ap (λ (y : List ℕ). y ++ r) is ∙ append_assoc (tlv t false c) (spell rest) r;
      spelled = record { wanted = tt; value = record { tag = l.0.0; fits = l.0.1; octets = refl } };
    })
    go (Constructed t ms rest) l is one = none (t, true, spell ms) (spell rest ++ r) (record {
      front = tlv t true (spell ms);
      parts = whole ∙ ap (λ (y : List ℕ). y ++ r) is ∙ append_assoc (tlv t true (spell ms)) (spell rest) r;
      spelled = record { wanted = tt; value = record { tag = l.0.0; fits = l.0.1; octets = refl } };
    })

-- the octets in front of the rest
abbrev pub StandsBefore : List ℕ → List ℕ → Section → Type 0
StandsBefore o p q = (front : List ℕ) → o ≡ front ++ p → IsSection q front p

pub front-section : (s f r o p : List ℕ) (q : Section) → s ≡ f ++ r → o ≡ s → p ≡ r → StandsBefore o p q
    → IsSection q f p
front-section s f r o p q parts a b is = is f (a ∙ parts ∙ ap (λ (y : List ℕ). f ++ y) (sym b))

-- a value by its header alone
pub headed-there : (s q o p : List ℕ) (z : Section) (x : Parts) → Accepts Any s x q → o ≡ s → p ≡ q
    → StandsBefore o p z → (s ≡ z.octets.now ++ q) × ((IsValue z.octets.now → ⊥) → Refuses SpellsValue s)
headed-there s q o p z x a i j k = (a.spells.parts ∙ ap (λ (y : List ℕ). y ++ q) (sym e), refused x a e)
  where
    e : z.octets.now ≡ a.spells.front
    e = (front-section s a.spells.front q o p z a.spells.parts i j k).octets

    refused : (y : Parts) (b : Accepts Any s y q) → z.octets.now ≡ b.spells.front → (IsValue z.octets.now → ⊥)
        → Refuses SpellsValue s
    refused (t, false, d) b is none = λ v r h. none
        (subst IsValue (sym is) (primitive-one t d b.spells.front b.spells.spelled))
    refused (t, true, d) b is none = value-not s d q t b
        (λ l. none (subst IsValue (sym is) (constructed-one t d b.spells.front b.spells.spelled l)))

-- ---- a value that is all of the octets

pub value-all : (s r : List ℕ) → Accepts SpellsAnyValue s tt r → (r ≡ []) ↔ IsValue s
value-all s r a = (
  λ end. (all-read SpellsAnyValue s tt r a end).0,
  λ one. sym (a.only tt [] (spelled-whole SpellsAnyValue s tt one)).1,
)

pub value-nowhere : (s : List ℕ) → Refuses SpellsAnyValue s → IsValue s → ⊥
value-nowhere s none one = nothing-whole SpellsAnyValue s none tt one

pub value-nothing : (s : List ℕ) → ((s ≡ [] → ⊥) → ⊥) → IsValue s → ⊥
value-nothing s h one = h (λ e. omega (arith, value-some one, ap length e))

nowhere : (s : List ℕ) → ((s ≡ [] → ⊥) → ⊥) → s ≡ []
nowhere [] h = refl
nowhere (x ∷ s) h = absurd (h (λ e. cc))

-- a reader of any value returned where none is: nothing remains
pub no-value : (s r : List ℕ) (o : Option (Unit {0})) → Refuses SpellsValue s
    → ReadsWhere IsNotEmpty (λ _. tt) SpellsAnyValue IsNestedFault s r (Ok o) → IsCaptureFault s Truncated
no-value s r None none h = inl (nowhere s h.0, refl)
no-value s r (Some u) none h = absurd (none h.1.spells.front r
    (record {
      front = h.1.spells.front;
      parts = h.1.spells.parts;
      spelled = record { same = refl; value = h.1.spells.spelled };
    }))
