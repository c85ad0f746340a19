-- Marks: authorities that have one mark are alike, and those that have one mark of a place publish the same; a set of
-- them has what was inserted.
use Rattle.std.proofs.Common.{◌≡◌, ◌⊎◌, ◌∙◌, inl, inr, ℕ, Bool, true, false, List, [], ◌∷◌, Option, Some, None, ap}
use Rattle.std.proofs.Common.{arith, refl, subst, sym}
use Rattle.std.specs.Prelude.{◌↔◌}
use Rattle.std.specs.List.{Contains}
use Rattle.rpki.specs.PublicKey.{KeyParts, key_of}
use Rattle.rpki.specs.declared.crypto.keys.PublicKeyFormat.{PublicKeyFormat}
use Rattle.rpki.specs.declared.crypto.keys.PublicKeyFormat.TheVariants.{Rsa, EcdsaP256}
use Rattle.rpki_der.specs.Leaves.{Bits}
use Rattle.rpki_valid.specs.Verified.{Holder}
use Rattle.rpki_valid.specs.declared.resource.set.ResourceSet.{ResourceSet}
use Rattle.rpki_validation.specs.Alike.{AreAlike, PublishTheSame}
use Rattle.rpki_validation.specs.Met.{HasMark, HasPlaceMark, Inserts, InsertsMarkOf, InsertsPlaceOf, IsPlace, Mark}
use Rattle.rpki_validation.specs.Met.{Kinds, format_number, kinds_of, mark}
use Rattle.rpki_validation.proofs.MetLaws.{head_of, equal-parts, same-kinds, tail_of}

same-format : (f g : PublicKeyFormat) → format_number f ≡ format_number g → f ≡ g
same-format Rsa Rsa e = refl
same-format Rsa EcdsaP256 e = absurd (omega (arith, e))
same-format EcdsaP256 Rsa e = absurd (omega (arith, e))
same-format EcdsaP256 EcdsaP256 e = refl

abbrev bits : ℕ → List ℕ → Bits
bits unused octets = record { unused = unused; octets = octets }

same-key : (k j : KeyParts) → k.bits.octets ≡ j.bits.octets → format_number k.format ≡ format_number j.format
    → k.bits.unused ≡ j.bits.unused → k ≡ j
same-key k j octets format unused =
    ap (λ (f : PublicKeyFormat). key_of f k.bits) (same-format k.format j.format format)
    ∙ ap (λ (n : ℕ). key_of j.format (bits n k.bits.octets)) unused
    ∙ ap (λ (o : List ℕ). key_of j.format (bits j.bits.unused o)) octets

-- those that have one mark are alike
pub marked-alike : (x y : Holder) (m : Mark) → HasMark x m → HasMark y m → AreAlike x y
marked-alike x y m h k =
    let e = sym h.numbers ∙ k.numbers in
    record {
      subject = sym h.name ∙ k.name;
      key = same-key x.cert.tbs.key y.cert.tbs.key (sym h.key ∙ k.key) (ap head_of e)
          (ap (λ (l : List ℕ). head_of (tail_of l)) e);
      resources = same-kinds x.resources y.resources (sym h.resources ∙ k.resources);
      folder = λ uri. (λ s. (k.folder uri).1 ((h.folder uri).0 s), λ s. (h.folder uri).1 ((k.folder uri).0 s));
      manifest = λ uri. (
        λ s. (k.manifest uri).1 ((h.manifest uri).0 s),
        λ s. (h.manifest uri).1 ((k.manifest uri).0 s),
      );
    }

-- what is alike has the mark
pub alike-marked : (x y : Holder) (m : Mark) → HasMark x m → AreAlike x y → HasMark y m
alike-marked x y m h same = record {
  name = h.name ∙ same.subject;
  key = h.key ∙ ap (λ (k : KeyParts). k.bits.octets) same.key;
  folder = λ uri. (
    λ s. (h.folder uri).0 ((same.folder uri).1 s),
    λ e. (same.folder uri).0 ((h.folder uri).1 e),
  );
  manifest = λ uri. (
    λ s. (h.manifest uri).0 ((same.manifest uri).1 s),
    λ e. (same.manifest uri).0 ((h.manifest uri).1 e),
  );
  numbers = h.numbers ∙ ap (λ (k : KeyParts). format_number k.format ∷ k.bits.unused ∷ []) same.key;
  resources = h.resources ∙ ap kinds_of same.resources;
}

-- ---- one mark

same-place : (Has : List ℕ → Type 0) (p q : Option (List ℕ)) → IsPlace Has p → IsPlace Has q → p ≡ q
same-place Has None None h k = refl
same-place Has None (Some q) h k = let e : ◌≡◌ {A = Option (List ℕ)} None (Some q) = (h q).0 ((k q).1 refl) in absurd
    (cc)
same-place Has (Some p) q h k = sym ((k p).0 ((h p).1 refl))

-- an authority has one mark
pub one-mark : (x : Holder) (p q : Mark) → HasMark x p → HasMark x q → p ≡ q
one-mark x p q h k =
    equal-parts p q (h.name ∙ sym k.name) (h.key ∙ sym k.key) (same-place _ _ _ h.folder k.folder)
    (same-place _ _ _ h.manifest k.manifest) (h.numbers ∙ sym k.numbers) (h.resources ∙ sym k.resources)

-- ---- publishing the same

pub same-itself : (x : Holder) → PublishTheSame x x
same-itself x = record {
  subject = refl;
  key = refl;
  folder = λ uri. (λ h. h, λ h. h);
  manifest = λ uri. (λ h. h, λ h. h);
}

pub same-then : (x y z : Holder) → PublishTheSame x y → PublishTheSame y z → PublishTheSame x z
same-then x y z h k = record {
  subject = h.subject ∙ k.subject;
  key = h.key ∙ k.key;
  folder = λ uri. (λ u. (k.folder uri).0 ((h.folder uri).0 u), λ u. (h.folder uri).1 ((k.folder uri).1 u));
  manifest = λ uri. (λ u. (k.manifest uri).0 ((h.manifest uri).0 u), λ u. (h.manifest uri).1 ((k.manifest uri).1 u));
}

pub alike-same : (x y : Holder) → AreAlike x y → PublishTheSame x y
alike-same x y h = record {
  subject = h.subject;
  key = h.key;
  folder = λ place. (
    λ s. (s.0, (h.folder s.0).0 s.1, s.2),
    λ s. (s.0, (h.folder s.0).1 s.1, s.2),
  );
  manifest = λ place. (
    λ s. (s.0, (h.manifest s.0).0 s.1, s.2),
    λ s. (s.0, (h.manifest s.0).1 s.1, s.2),
  );
}

placed-same : (x y : Holder) (m : Mark) → HasPlaceMark x m → HasPlaceMark y m → PublishTheSame x y
placed-same x y m h k =
    let e = sym h.numbers ∙ k.numbers in
    record {
      subject = sym h.name ∙ k.name;
      key = same-key x.cert.tbs.key y.cert.tbs.key (sym h.key ∙ k.key) (ap head_of e)
          (ap (λ (l : List ℕ). head_of (tail_of l)) e);
      folder = λ uri. (λ s. (k.folder uri).1 ((h.folder uri).0 s), λ s. (h.folder uri).1 ((k.folder uri).0 s));
      manifest = λ uri. (
        λ s. (k.manifest uri).1 ((h.manifest uri).0 s),
        λ s. (h.manifest uri).1 ((k.manifest uri).0 s),
      );
    }

same-placed : (x y : Holder) (m : Mark) → HasPlaceMark x m → PublishTheSame x y → HasPlaceMark y m
same-placed x y m h same = record {
  name = h.name ∙ same.subject;
  key = h.key ∙ ap (λ (k : KeyParts). k.bits.octets) same.key;
  folder = λ uri. (
    λ s. (h.folder uri).0 ((same.folder uri).1 s),
    λ e. (same.folder uri).0 ((h.folder uri).1 e),
  );
  manifest = λ uri. (
    λ s. (h.manifest uri).0 ((same.manifest uri).1 s),
    λ e. (same.manifest uri).0 ((h.manifest uri).1 e),
  );
  numbers = h.numbers ∙ ap (λ (k : KeyParts). format_number k.format ∷ k.bits.unused ∷ []) same.key;
  resources = h.resources;
}

-- ---- sets of marks

-- one that is alike is among those that have a mark here; one that publishes the same is
abbrev pub IsMet : List Mark → Holder → Type 0
IsMet marks x = (m : Mark) × HasMark x m × Contains marks m

abbrev pub IsPublished : List Mark → Holder → Type 0
IsPublished marks x = (m : Mark) × HasPlaceMark x m × Contains marks m

module _ (R : Holder → Mark → Type 0) (Same : Holder → Holder → Type 0)
    (there : (x y : Holder) (m : Mark) → R x m → R y m → Same x y)
    (back : (x y : Holder) (m : Mark) → R x m → Same x y → R y m) (old new : List Mark) (a : Holder) (m : Mark)
    (has : R a m) (is_new : Bool) (put : Inserts old new m is_new) where
  abbrev In : List Mark → Holder → Type 0
  In marks x = (n : Mark) × R x n × Contains marks n

  put-cases : (x : Holder) → In new x → In old x ⊎ Same a x
  put-cases x h = by (put.kept h.0 h.2) where
    by : Contains old h.0 ⊎ (h.0 ≡ m) → In old x ⊎ Same a x
    by (inl c) = inl (h.0, h.1, c)
    by (inr e) = inr (there a x m has (subst (λ (n : Mark). R x n) e h.1))

  put-back : (x : Holder) → In old x ⊎ Same a x → In new x
  put-back x (inl h) = (h.0, h.1, put.old h.0 h.2)
  put-back x (inr s) = (m, back a x m has s, put.added)

pub met-more : (old new : List Mark) (a : Holder) (is_new : Bool) → InsertsMarkOf old new a is_new → (x : Holder)
    → IsMet new x ↔ (IsMet old x ⊎ AreAlike a x)
met-more old new a is_new h x = (
  put-cases HasMark AreAlike marked-alike alike-marked old new a h.0 h.1 is_new h.2 x,
  put-back HasMark AreAlike marked-alike alike-marked old new a h.0 h.1 is_new h.2 x,
)

pub published-more : (old new : List Mark) (a : Holder) (is_new : Bool) → InsertsPlaceOf old new a is_new → (x : Holder)
    → IsPublished new x ↔ (IsPublished old x ⊎ PublishTheSame a x)
published-more old new a is_new h x = (
  put-cases HasPlaceMark PublishTheSame placed-same same-placed old new a h.0 h.1 is_new h.2 x,
  put-back HasPlaceMark PublishTheSame placed-same same-placed old new a h.0 h.1 is_new h.2 x,
)

-- it was among them, or not
pub met-was : (old new : List Mark) (a : Holder) → InsertsMarkOf old new a false → IsMet old a
met-was old new a h = (h.0, h.1, subst (λ (l : List Mark). Contains l h.0) h.2.same h.2.added)

pub published-was : (old new : List Mark) (a : Holder) → InsertsPlaceOf old new a false → IsPublished old a
published-was old new a h = (h.0, h.1, subst (λ (l : List Mark). Contains l h.0) h.2.same h.2.added)

pub published-new : (old new : List Mark) (a : Holder) → InsertsPlaceOf old new a true → IsPublished old a → ⊥
published-new old new a h k = h.2.fresh (subst (λ (m : Mark). Contains old m) (one-place a k.0 h.0 k.1 h.1) k.2)
  where
    one-place : (x : Holder) (p q : Mark) → HasPlaceMark x p → HasPlaceMark x q → p ≡ q
    one-place x p q h k =
        equal-parts p q (h.name ∙ sym k.name) (h.key ∙ sym k.key) (same-place _ _ _ h.folder k.folder)
        (same-place _ _ _ h.manifest k.manifest) (h.numbers ∙ sym k.numbers) (h.resources ∙ sym k.resources)
