-- Octets are the fields of a manifest in one way at most.
use Rattle.std.proofs.Common.{◌≡◌, ◌∙◌, ℕ, true, false, List, [], ◌∷◌, refl, sym, subst}
use Rattle.rpki_der.specs.Prelude.{TagName, integer, ia5_string, bit_string, generalized_time, oid, sequence, Spells}
use Rattle.rpki_der.specs.Prelude.{SpellsContents, SpellsLeaf, SpellsFor, SpellsEach, Then, Format, IsOnly, IsBits}
use Rattle.rpki_der.specs.Prelude.{bits_value, this_oid}
use Rattle.rpki_der.proofs.ComposedLaws.{spelled-whole}
use Rattle.rpki_der.proofs.IntegerLaws.{one-number}
use Rattle.rpki_der.proofs.LeafValueLaws.{leaf-nowhere}
use Rattle.rpki_der.proofs.LeavesLaws.{bits-one}
use Rattle.rpki_der.proofs.OneFormatLaws.{IsLawfulWhole, leaf-lawful, around-lawful}
use Rattle.rpki_der.proofs.PartsLaws.{pair-is, first-of}
use Rattle.rpki_time.specs.Serial.{IsSerialContents, serial_number}
use Rattle.rpki_time.specs.TimeText.{ReadsAsGeneralized}
use Rattle.rpki_time.specs.TimeValue.{generalized}
use Rattle.rpki_time.proofs.TextLaws.{generalized-unique}
use Rattle.rpki.specs.Oids.{sha256}
use Rattle.rpki_x509.specs.MessageDigest.{IsFileHash}
use Rattle.rpki_x509.specs.MessageDigest.{file_hash}
use Rattle.rpki_contents.specs.ListedFile.{IsName, file_name, file_parts, file}
use Rattle.rpki_contents.specs.ManifestView.{view_list, view_fields, view_manifest}

-- octets begin with one value of G at most, which ends in one place
abbrev pub IsOneFront : {V : Type 0} → (V → List ℕ → Type 0) → Type 0
IsOneFront {V} G = (s : List ℕ) (v w : V) (r q : List ℕ) → Spells G s v r → Spells G s w q → (v ≡ w) × (r ≡ q)

-- octets are one value of G at most
abbrev pub IsOneWhole : {V : Type 0} → (V → List ℕ → Type 0) → Type 0
IsOneWhole {V} G = (s : List ℕ) (v w : V) → G v s → G w s → v ≡ w

-- ---- composed values

pub both-one : {A B : Type 0} (G : A → List ℕ → Type 0) (H : B → List ℕ → Type 0) → IsOneFront G → IsOneWhole H
    → IsOneWhole (Then G H)
both-one G H one two s x y h k =
    let e = one s x.0 y.0 h.second k.second (first-of h) (first-of k) in
    pair-is x y.0 y.1 e.0 (two h.second x.1 y.1 h.two (subst (H y.1) (sym e.1) k.two))

pub such-one : {V O : Type 0} (G : O → List ℕ → Type 0) (R : V → O → Type 0) → IsOneFront G
    → ((o : O) (v w : V) → R v o → R w o → v ≡ w) → IsOneFront (SpellsFor G R)
such-one G R one says s v w r q h k =
    let x = h.spelled in
    let y = k.spelled in
    let e = one s x.value y.value r q (record { front = h.front; parts = h.parts; spelled = x.spelled })
    (record { front = k.front; parts = k.parts; spelled = y.spelled }) in
    (says x.value v w x.stands (subst (R w) (sym e.0) y.stands), e.1)

pub around-one : {V : Type 0} (t : TagName) (G : V → List ℕ → Type 0) → IsOneWhole G → IsOneFront (SpellsLeaf t true G)
around-one {V} t G one =
    let contents : Format V = record { spells = G; fault = λ s e. ⊥ } in
    let lawful : IsLawfulWhole contents =
    record { one = one; sound = λ s v e n g k. k; same = λ s d e m n k l. absurd k } in
    (around-lawful t contents lawful).one

cons-is : {V : Type 0} (x y : V) (xs ys : List V) → x ≡ y → xs ≡ ys → x ∷ xs ≡ y ∷ ys
cons-is x y xs ys p q = λ i. p i ∷ q i

module _ {V : Type 0} (G : V → List ℕ → Type 0) (one : IsOneFront G)
    (some : (s : List ℕ) (v : V) (r : List ℕ) → s ≡ [] → Spells G s v r → ⊥) where
  pub each-one : IsOneWhole (SpellsEach G)
  each-one s [] [] h k = refl
  each-one s [] (y ∷ ys) h k = absurd (some s y k.0 h k.1)
  each-one s (x ∷ xs) [] h k = absurd (some s x h.0 k h.1)
  each-one s (x ∷ xs) (y ∷ ys) h k =
      let e = one s x y h.0 k.0 h.1 k.1 in
      cons-is x y xs ys e.0 (each-one h.0 xs ys h.2 (subst (λ (q : List ℕ). SpellsEach G ys q) (sym e.1) k.2))

-- ---- primitive values

pub number-one : IsOneFront serial_number.spells
number-one = (leaf-lawful integer IsSerialContents (λ c v w h k. one-number v w c h.0 k.0)).one

pub time-one : IsOneFront generalized.spells
time-one =
    (leaf-lawful generalized_time (λ t text. ReadsAsGeneralized text t) (λ c v w h k. generalized-unique c v w h k)).one

pub digest-one : IsOneFront (this_oid sha256).spells
digest-one = (leaf-lawful oid (IsOnly sha256) (λ c v w h k. refl)).one

abbrev same_octets : List ℕ → List ℕ → Type 0
same_octets v c = v ≡ c

as-leaf : (t : TagName) (s c r : List ℕ) → Spells (SpellsContents t false) s c r
    → Spells (SpellsLeaf t false same_octets) s c r
as-leaf t s c r h = record {
  front = h.front;
  parts = h.parts;
  spelled = record { contents = c; value = h.spelled; spelled = refl };
}

octets-one : (t : TagName) → IsOneFront (SpellsContents t false)
octets-one t s v w r q h k =
    (leaf-lawful t same_octets (λ c v w h k. h ∙ sym k)).one s v w r q (as-leaf t s v r h) (as-leaf t s w q k)

-- ---- files

name-one : IsOneFront file_name.spells
name-one = such-one (SpellsContents ia5_string false) IsName (octets-one ia5_string) (λ o v w h k. h.0 ∙ sym k.0)

hash-one : IsOneFront file_hash.spells
hash-one =
    such-one bits_value.spells IsFileHash (leaf-lawful bit_string IsBits (λ c v w h k. bits-one w c v k h)).one
    (λ o v w h k. h.octets ∙ sym k.octets)

pub whole-one : {V : Type 0} (G : V → List ℕ → Type 0) → IsOneFront G → IsOneWhole G
whole-one G one s v w h k = (one s v w [] [] (spelled-whole G s v h) (spelled-whole G s w k)).0

pub file-one : IsOneFront file.spells
file-one =
    around-one sequence file_parts.spells
    (both-one file_name.spells file_hash.spells name-one (whole-one file_hash.spells hash-one))

files-one : IsOneWhole (SpellsEach file.spells)
files-one = each-one file.spells file-one (leaf-nowhere sequence true file_parts.spells)

pub list-one : IsOneWhole view_list.spells
list-one = whole-one view_list.spells (around-one sequence (SpellsEach file.spells) files-one)

-- ---- the fields

pub fields-one : IsOneWhole view_fields.spells
fields-one =
    both-one serial_number.spells _ number-one
    (both-one generalized.spells _ time-one
    (both-one generalized.spells _ time-one (both-one (this_oid sha256).spells _ digest-one list-one)))

pub manifest-one : IsOneWhole view_manifest.spells
manifest-one = whole-one view_manifest.spells (around-one sequence view_fields.spells fields-one)
