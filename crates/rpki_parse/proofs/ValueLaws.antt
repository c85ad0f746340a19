-- A value, a tag in front and the end of the rest: the functions find what the relations of rpki_der say.
use Rattle.std.proofs.Common.{◌≡◌, ◌≢◌, ℕ, ◌≤◌, Bool, true, false}
use Rattle.std.proofs.Common.{List, [], ◌∷◌, ◌++◌, length, refl, sym, ap, ◌∙◌}
use Rattle.std.proofs.Common.{inl, inr, arith, Result, Ok, Err, length-append, ◌&&◌, IsTrue}
use Rattle.std.specs.Prelude.{◌↔◌, MatchResult}
use Rattle.std.proofs.lemmas.Bool.{false≢true, false_from_ne_true, eq-eqb, eqb-true, le-ltb, lt-ltb}
use Rattle.std.proofs.Math.Seq.{take-append_seam, drop-append_seam}
use Rattle.rpki_der.specs.declared.error.DecodeError.{DecodeError}
use Rattle.rpki_der.specs.declared.error.DecodeError.TheVariants.{Trailing}
use Rattle.rpki_der.specs.declared.tag.Class.{Class}
use Rattle.rpki_der.specs.declared.tag.Header.{Header}
use Rattle.rpki_der.specs.Error.{error_number}
use Rattle.rpki_der.specs.TagName.{TagName}
use Rattle.rpki_der.specs.Header.{identifier_octets, class_number}
use Rattle.rpki_der.specs.HeaderReading.{header_at, class_at, identifier_at}
use Rattle.rpki_der.specs.Reading.{Spells, Reads}
use Rattle.rpki_der.specs.Values.{SpellsContents, IsContentsFault, HasTag}
use Rattle.rpki_der.proofs.StepLaws.{IsBytes}
use Rattle.rpki_der.proofs.IdentifierLaws.{class-again, identifier-takes}
use Rattle.rpki_der.proofs.HeaderReadingLaws.{read-from, fault-is, identifier-from}
use Rattle.rpki_der.proofs.ValuesLaws.{value-header}
use Rattle.rpki_der.proofs.FaultKindLaws.{head-of, Named, sort-out}
use Rattle.rpki_der.proofs.LeafValueLaws.{contents-shorter}
use Rattle.rpki_parse.specs.Words.{Moves, parsed, kinds}
use Rattle.rpki_parse.specs.Value.{value_at, has_header, same_bool, is_tag, tagged, tag_of_result, ended}

-- ---- the test of a header

bool-same : (f : Bool) → same_bool f f ≡ true
bool-same true = refl
bool-same false = refl

same-bool : (f g : Bool) → same_bool f g ≡ true → g ≡ f
same-bool true true h = refl
same-bool true false h = absurd (false≢true h)
same-bool false true h = absurd (false≢true h)
same-bool false false h = refl

pub and-parts : (a b : Bool) → (a && b) ≡ true → (a ≡ true) × (b ≡ true)
and-parts true b h = (refl, h)
and-parts false b h = absurd (false≢true h)

tag-same : (t u : TagName) → t.class ≡ u.class → t.number ≡ u.number → t ≡ u
tag-same t u a b = λ i. record { class = a i; number = b i }

class-same : (c d : Class) → class_number c ≡ class_number d → c ≡ d
class-same c d e = sym (class-again c) ∙ ap class_at e ∙ class-again d

tag-is : (t u : TagName) → u ≡ t → is_tag t u ≡ true
tag-is t u same =
    rw (same, eq-eqb (class_number t.class) (class_number t.class) refl, eq-eqb t.number t.number refl) refl

is-tag : (t u : TagName) → is_tag t u ≡ true → u ≡ t
is-tag t u e =
    let x = and-parts _ _ e in tag-same u t (class-same u.class t.class (eqb-true _ _ x.0)) (eqb-true _ _ x.1)

names-this : (t : TagName) (f : Bool) (h : Header) → Named t f h → has_header t f h ≡ true
names-this t f h (same, form) = rw (tag-is t h.tag same, form) (bool-same f)

pub named-by : (t : TagName) (f : Bool) (h : Header) → has_header t f h ≡ true → Named t f h
named-by t f h e = let x = and-parts _ _ e in (is-tag t h.tag x.0, same-bool f h.constructed x.1)

names-other : (t : TagName) (f : Bool) (h : Header) → (Named t f h → ⊥) → has_header t f h ≡ false
names-other t f h other = false_from_ne_true (has_header t f h) (λ e. other (named-by t f h e))

-- ---- a value

pub value-read : (t : TagName) (f : Bool) (s c r : List ℕ) → Spells (SpellsContents t f) s c r
    → value_at t f s ≡ Ok (c, r)
unfolding value_at
value-read t f s c r v =
    let h = head-of t f (length c) in
    let e : header_at s ≡ Ok (h, c ++ r) = read-from s h (c ++ r) (value-header t f s c r v) in
    let low : length c ≤ length (c ++ r) = omega (arith, length-append c r) in
    rw (
      e,
      names-this t f h (refl, refl),
      le-ltb (length (c ++ r)) (length c) low,
      take-append_seam c r,
      drop-append_seam c r,
    ) refl

pub value-failed : (t : TagName) (f : Bool) (s : List ℕ) (e : DecodeError) → IsBytes s → IsContentsFault t f s e
    → value_at t f s ≡ Err (error_number e)
unfolding value_at
value-failed t f s e bytes p =
    elim (sort-out t f s e p) [
      | inl x ↦ rw (fault-is s e bytes x) refl
      | inr (h, r, sp, says) ↦
          let q : header_at s ≡ Ok (h, r) = read-from s h r sp in
          elim says [
            | inl (is, named, short) ↦ rw (q, names-this t f h named, lt-ltb (length r) h.length short, is) refl
            | inr (is, other) ↦ rw (q, names-other t f h other, is) refl
          ]
    ]

-- what a reader of such a value returns and leaves is what the function says
pub value_law : {X : Type 0} (view : X → List ℕ) (t : TagName) (f : Bool) (s r : List ℕ) (x : Result X DecodeError)
    → IsBytes s → Reads view (SpellsContents t f) (IsContentsFault t f) s r x
    → parsed view x r ≡ value_at t f s
value_law view t f s r (Ok x) bytes h = sym (value-read t f s (view x) r h.spells)
value_law view t f s r (Err e) bytes h = sym (value-failed t f s e bytes h.kind)

-- what remains afterwards
pub contents_moves : {X : Type 0} (view : X → List ℕ) (t : TagName) (f : Bool) (s r : List ℕ) (x : Result X DecodeError)
    → Reads view (SpellsContents t f) (IsContentsFault t f) s r x → Moves s r x
contents_moves view t f s r (Ok x) h = contents-shorter t f s (view x) r h.spells
contents_moves view t f s r (Err e) h = h.unchanged

-- ---- a tag in front

tag-none : (t : TagName) (s : List ℕ) (x : Result ((TagName × Bool) × List ℕ) DecodeError) → identifier_at s ≡ x
    → IsBytes s → (HasTag t s → ⊥) → tag_of_result t x ≡ false
tag-none t s (Err e) q bytes miss = refl
tag-none t s (Ok ((u, f), r)) q bytes miss =
    false_from_ne_true (is_tag t u) (λ e.
    let it = identifier-takes s (u, f) r bytes q in
    let same : u ≡ t = is-tag t u e in
    miss (rw (← same) (
      f,
      r,
      record {
        front = identifier_octets u f;
        parts = it.octets;
        spelled = record
            { legal = it.legal; octets = refl };
      },
    )))

pub tag_law : (t : TagName) (s : List ℕ) (b : Bool) → IsBytes s → (IsTrue b ↔ HasTag t s) → b ≡ tagged t s
unfolding tagged
tag_law t s true bytes h =
    let (f, r, sp) = h.0 refl in rw (identifier-from s (t, f) r sp) (sym (tag-is t t refl))
tag_law t s false bytes h = sym (tag-none t s (identifier_at s) refl bytes (λ has. false≢true (h.1 has)))

-- ---- the end

pub end_law : (s : List ℕ) (x : Result (Unit {0}) DecodeError)
    → MatchResult x (λ _. s ≡ []) (λ e. (e ≡ Trailing) × (s ≢ [])) → kinds x ≡ ended s
unfolding ended
end_law s (Ok u) h = rw h refl
end_law [] (Err e) h = absurd (h.1 refl)
end_law (b ∷ s) (Err e) h = rw h.0 refl
