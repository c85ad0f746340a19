-- The value at the front of octets that begin with one.
use Rattle.std.proofs.Common.{◌≡◌, ℕ, Bool, List, [], ◌++◌, length, refl, sym, ap, ◌∙◌, append_assoc, append-nil}
use Rattle.std.specs.Prelude.{Ok}
use Rattle.std.proofs.lemmas.List.{take_at, drop_at}
use Rattle.rpki_der.specs.TagName.{TagName}
use Rattle.rpki_der.specs.Header.{IsHeader, header_octets}
use Rattle.rpki_der.specs.HeaderReading.{header_at}
use Rattle.rpki_der.specs.declared.tag.Header.{Header}
use Rattle.rpki_der.specs.Reading.{Spells}
use Rattle.rpki_der.specs.Values.{SpellsContents, HasTag}
use Rattle.rpki_der.specs.Front.{front_contents, after_front}
use Rattle.rpki_der.proofs.HeaderLaws.{header-again}
use Rattle.rpki_der.proofs.HeaderReadingLaws.{identifier-from}
use Rattle.rpki_der.proofs.StepLaws.{pair-is}
use Rattle.rpki_der.proofs.LeavesLaws.{leaf-tag}

header-found : (t : TagName) (f : Bool) (c p r : List ℕ) → SpellsContents t f c p
    → (h : Header) × (h.length ≡ length c) × (header_at (p ++ r) ≡ Ok (h, c ++ r))
header-found t f c p r s =
    let h : Header = record { tag = t; constructed = f; length = length c } in
    let legal : IsHeader h = record { tag = s.tag; length = s.fits } in
    let split : p ++ r ≡ header_octets h ++ (c ++ r) = ap (λ (x : List ℕ). x ++ r) s.octets ∙ append_assoc
    (header_octets h) c r in
    (h, refl, ap header_at split ∙ header-again h (c ++ r) legal)

-- the contents of the value, and what follows it
pub front_contents_of : (t : TagName) (f : Bool) (c p r : List ℕ) → SpellsContents t f c p → front_contents (p ++ r) ≡ c
unfolding front_contents
front_contents_of t f c p r s = let k = header-found t f c p r s in rw (k.2, k.1) (take_at c r (length c) refl)

pub after_front-of : (t : TagName) (f : Bool) (c p r : List ℕ) → SpellsContents t f c p → after_front (p ++ r) ≡ r
unfolding after_front
after_front-of t f c p r s = let k = header-found t f c p r s in rw (k.2, k.1) (drop_at c r (length c) refl)

-- the same of the value alone
pub contents-alone : (t : TagName) (f : Bool) (c p : List ℕ) → SpellsContents t f c p → front_contents p ≡ c
contents-alone t f c p s = ap front_contents (sym (append-nil p)) ∙ front_contents_of t f c p [] s

pub nothing-after : (t : TagName) (f : Bool) (c p : List ℕ) → SpellsContents t f c p → after_front p ≡ []
nothing-after t f c p s = ap after_front (sym (append-nil p)) ∙ after_front-of t f c p [] s

-- a list begins with one tag
pub one-tag : (s : List ℕ) (t u : TagName) → HasTag t s → HasTag u s → t ≡ u
one-tag s t u (f, r, h) (g, q, k) =
    ap (λ (i : TagName × Bool). i.0) (pair-is (t, f) (u, g) r q
    (sym (identifier-from s (t, f) r h) ∙ identifier-from s (u, g) q k)).0

-- a value begins with its tag
pub contents-tag : (t : TagName) (f : Bool) (s c r : List ℕ) → Spells (SpellsContents t f) s c r → HasTag t s
contents-tag t f s c r h =
    leaf-tag t f (λ (v : List ℕ) (w : List ℕ). w ≡ v) s c r
    (record { front = h.front; parts = h.parts; spelled = record { contents = c; value = h.spelled; spelled = refl } })
