-- AS numbers, as INTEGERs below 2^64 that are small.
use Rattle.std.proofs.Common.{◌≡◌, ◌≤◌, ◌<◌, ◌^◌, ℕ, List, false, arith}
use Rattle.rpki_der.specs.declared.error.DecodeError.{DecodeError}
use Rattle.rpki_der.specs.declared.error.ContentError.{ContentError}
use Rattle.rpki_der.specs.declared.error.DecodeError.TheVariants.{Content}
use Rattle.rpki_der.specs.TagName.{integer}
use Rattle.rpki_der.specs.Reading.{Spells, Accepts, Refusal}
use Rattle.rpki_der.specs.Values.{SpellsLeaf, IsLeafFault}
use Rattle.rpki_der.specs.Integer.{IsUnsignedBelow}
use Rattle.rpki_der.proofs.ReadingLaws.{UnlessMemory-weaker}
use Rattle.rpki_der.proofs.LeavesLaws.{other-contents}
use Rattle.rpki_resources.specs.AsNumber.{as_number}

abbrev Large : ℕ → List ℕ → Type 0
Large = SpellsLeaf integer false (IsUnsignedBelow (2 ^ 64))

larger : (n : ℕ) (c : List ℕ) → IsUnsignedBelow (2 ^ 32) n c → IsUnsignedBelow (2 ^ 64) n c
larger n c h = record { below = omega (arith, h.below); contents = h.contents }

as-large : (s : List ℕ) (n : ℕ) (r : List ℕ) → Spells as_number.spells s n r → Spells Large s n r
as-large s n r h = record {
  front = h.front;
  parts = h.parts;
  spelled = record {
    contents = h.spelled.contents;
    value = h.spelled.value;
    spelled =
        larger n h.spelled.contents h.spelled.spelled;
  };
}

pub number-accepted : (s r : List ℕ) (n : ℕ) → n < 2 ^ 32 → Accepts Large s n r → Accepts as_number.spells s n r
number-accepted s r n small a = record {
  spells = record {
    front = a.spells.front;
    parts = a.spells.parts;
    spelled = record {
      contents = a.spells.spelled.contents;
      value = a.spells.spelled.value;
      spelled =
          record { below = small; contents = a.spells.spelled.spelled.contents };
    };
  };
  only = λ m q h. a.only m q (as-large s m q h);
}

pub number-refused : (s q r : List ℕ) (e : DecodeError) → r ≡ s
    → Refusal Large (IsLeafFault integer false (IsUnsignedBelow (2 ^ 64))) s q e
    → Refusal as_number.spells as_number.fault s r e
number-refused s q r e same h = record {
  unchanged = same;
  refuses = UnlessMemory-weaker e (λ none n p k. none n p (as-large s n p k)) h.refuses;
  kind = other-contents integer false (IsUnsignedBelow (2 ^ 64)) (IsUnsignedBelow (2 ^ 32)) s e
      (λ n c k. (n, larger n c k)) h.kind;
}

pub number-too-large : (s q r : List ℕ) (n : ℕ) (x : ContentError) → 2 ^ 32 ≤ n → r ≡ s → Accepts Large s n q
    → Refusal as_number.spells as_number.fault s r (Content x)
number-too-large s q r n x large same a = record {
  unchanged = same;
  refuses = λ m p k. let e = a.only m p (as-large s m p k) in omega (arith, e.0, k.spelled.spelled.below);
  kind = (
    a.spells.spelled.contents,
    q,
    record {
      front = a.spells.front;
      parts = a.spells.parts;
      spelled =
          a.spells.spelled.value;
    },
    λ m k. no m k,
  );
} where
  there : (m : ℕ) → IsUnsignedBelow (2 ^ 32) m a.spells.spelled.contents → Spells Large s m q
  there m k = record {
    front = a.spells.front;
    parts = a.spells.parts;
    spelled =
        record {
          contents = a.spells.spelled.contents;
          value = a.spells.spelled.value;
          spelled =
              larger m a.spells.spelled.contents k;
        };
  }

  no : (m : ℕ) → IsUnsignedBelow (2 ^ 32) m a.spells.spelled.contents → ⊥
  no m k = let e = a.only m q (there m k) in omega (arith, e.0, k.below)
