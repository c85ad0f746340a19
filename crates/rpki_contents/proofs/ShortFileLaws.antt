-- Files of a manifest whose header and that of their name are two octets each.
use Rattle.std.proofs.Common.{◌≡◌, ◌≤◌, ◌∙◌, ℕ, false, true, List, [], ◌∷◌, length, get_or, drop, refl, sym, subst}
use Rattle.std.proofs.Common.{append-nil, arith}
use Rattle.rpki_der.specs.Prelude.{bit_string, Spells, SpellsContents, AreBits, bits_of}
use Rattle.rpki_contents.specs.FileName.{is_file_name}
use Rattle.rpki_contents.specs.InPlace.{Follows}
use Rattle.rpki_x509.specs.MessageDigest.{file_hash}
use Rattle.rpki_contents.specs.ListedFile.{ListedFile, file_parts, file}
use Rattle.rpki_x509.specs.Short.{IsShort}
use Rattle.rpki_contents.proofs.OneReadingLaws.{file-one}
use Rattle.rpki_x509.proofs.ShortLaws.{short-sequence, short-bits, short-text}

-- a BIT STRING of thirty-two octets, all bits of which are used
hash-there : (b d : List ℕ) → b ≡ 3 ∷ 33 ∷ 0 ∷ d → length d ≡ 32 → file_hash.spells d b
hash-there b d is size =
    let short : IsShort 3 b (0 ∷ d) [] = record {
      parts = is ∙ rw (size, append-nil d) refl;
      few = omega (arith, size);
    } in
    let i = short-bits b (0 ∷ d) [] short in
    let legal : AreBits (bits_of 0 d) = record { few = omega arith; none = λ z. refl; zero = omega arith } in
    record {
      value = bits_of 0 d;
      spelled = record {
        contents = 0 ∷ d;
        value = subst (λ (z : List ℕ). SpellsContents bit_string false (0 ∷ d) z) (sym (i.parts ∙ append-nil i.front))
            i.spelled;
        spelled = record { legal = legal; contents = refl };
      };
      stands = record { octets = refl; used = refl; size = size };
    }

module _ (s parts rest name behind : List ℕ) (outer : IsShort 48 s parts rest) (inner : IsShort 22 parts name behind)
    (legal : is_file_name name ≡ true) where
  there : (d : List ℕ) → behind ≡ 3 ∷ 33 ∷ 0 ∷ d → length d ≡ 32 → Follows file.spells s rest
  there d is size =
      let o = short-sequence s parts rest outer in
      let i = short-text parts name behind inner in
      let x : ListedFile = (name, d) in
      let inside : file_parts.spells x parts = record {
        first = i.front;
        second = behind;
        parts = i.parts;
        one = record { value = name; spelled = i.spelled; stands = (refl, legal) };
        two = hash-there behind d is size;
      } in
      let spelled : Spells file.spells s x rest = record {
        front = o.front;
        parts = o.parts;
        spelled = record { contents = parts; value = o.spelled; spelled = inside };
      } in
      (x, record { spells = spelled; only = λ y q k. file-one s y x q rest k spelled })

  pub file-there : 3 ≤ length behind → get_or behind 0 0 ≡ 3 → get_or behind 1 0 ≡ 33 → get_or behind 2 0 ≡ 0
      → length (drop 3 behind) ≡ 32 → Follows file.spells s rest
  file-there some a b c size = there (drop 3 behind) (begins behind some a b c) size where
    begins : (xs : List ℕ) → 3 ≤ length xs → get_or xs 0 0 ≡ 3 → get_or xs 1 0 ≡ 33 → get_or xs 2 0 ≡ 0
        → xs ≡ 3 ∷ 33 ∷ 0 ∷ drop 3 xs
    begins [] some a b c = absurd (omega (arith, some))
    begins (x ∷ []) some a b c = absurd (omega (arith, some))
    begins (x ∷ y ∷ []) some a b c = absurd (omega (arith, some))
    begins (x ∷ y ∷ z ∷ zs) some a b c = rw (← a, ← b, ← c) refl
