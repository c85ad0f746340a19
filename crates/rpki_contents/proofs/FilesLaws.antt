-- The files of a manifest, read in place, in sequence.
use Rattle.std.proofs.Common.{◌≡◌, ◌≢◌, ◌∙◌, ◌++◌, ◌<◌, ℕ, true, false, List, [], ◌∷◌, length, Some, None}
use Rattle.std.proofs.Common.{refl, sym, ap, subst, arith, length-append, append_assoc, append-nil}
use Rattle.rpki_der.specs.declared.error.DecodeError.{DecodeError}
use Rattle.rpki_der.specs.declared.error.DecodeError.TheVariants.{OutOfMemory}
use Rattle.rpki_der.specs.TagName.{ia5_string, bit_string, sequence}
use Rattle.rpki_der.specs.Reading.{Accepts, Refuses, Refusal, SpellsNothing}
use Rattle.rpki_der.specs.Leaves.{IsBits}
use Rattle.rpki_der.specs.FirstFault.{IsEndFault, RepeatedFault}
use Rattle.rpki_der.specs.FirstFault.RepeatedFault.{AfterMember}
use Rattle.rpki_der.specs.Format.{StandsForNothing, octets_under, only}
use Rattle.rpki_der.specs.LeafFormats.{bits_value}
use Rattle.rpki_der.proofs.EachLaws.{leaf-some}
use Rattle.rpki_der.proofs.FirstFaultLaws.{inside-no-memory, first-no-memory, end-no-memory}
use Rattle.rpki_der.proofs.InsideLaws.{unless-memory}
use Rattle.rpki_der.proofs.LeavesLaws.{leaf-no-memory, contents-no-memory}
use Rattle.rpki_contents.specs.declared.file_view.FileView.{FileView}
use Rattle.rpki_x509.specs.MessageDigest.{IsFileHash}
use Rattle.rpki_x509.specs.MessageDigest.{file_hash}
use Rattle.rpki_contents.specs.ListedFile.{ListedFile, IsName, file_name, file_parts, file}
use Rattle.rpki_contents.specs.FilesInPlace.{AreFiles}
use Rattle.rpki_contents.specs.ManifestView.{file_in, GivesFile}

-- ---- files allocate nothing

name-no-memory : (s : List ℕ) → file_name.fault s OutOfMemory → ⊥
name-no-memory s =
    first-no-memory (octets_under ia5_string).spells (octets_under ia5_string).fault (StandsForNothing IsName) s
    (λ m. contents-no-memory ia5_string false s OutOfMemory m refl) (λ v r l. l.1)

hash-no-memory : (s : List ℕ) → file_hash.fault s OutOfMemory → ⊥
hash-no-memory s =
    first-no-memory bits_value.spells bits_value.fault (StandsForNothing IsFileHash) s
    (λ m. leaf-no-memory bit_string false IsBits s OutOfMemory m refl) (λ v r l. l.1)

pub file-no-memory : (s : List ℕ) → file.fault s OutOfMemory → ⊥
file-no-memory s =
    inside-no-memory sequence true file_parts.fault s
    (λ c. first-no-memory file_name.spells file_name.fault (λ v. (only file_hash).fault) c (name-no-memory c)
    (λ v r. first-no-memory file_hash.spells file_hash.fault (λ h. IsEndFault) r (hash-no-memory r)
    (λ h q. end-no-memory q)))

pub no-file : (s r : List ℕ) (e : DecodeError) → Refusal file.spells file.fault s r e → Refuses file.spells s
no-file s r e h = unless-memory e (λ z. file-no-memory s (subst (file.fault s) z h.kind)) h.refuses

-- ---- a file takes some octets

nowhere : (x : ListedFile) → file.spells x [] → ⊥
nowhere = leaf-some sequence true file_parts.spells

pub shorter : (m q : List ℕ) (x : ListedFile) → Accepts file.spells m x q → length q < length m
shorter m q x a = behind a.spells.front a.spells.parts a.spells.spelled where
  behind : (p : List ℕ) → m ≡ p ++ q → file.spells x p → length q < length m
  behind [] e h = absurd (nowhere x h)
  behind (y ∷ ys) e h = omega (arith, ap length e, length-append (y ∷ ys) q)

-- ---- one file, and others

module _ (m : List ℕ) (some : m ≢ []) where
  pub nothing-here : Refuses file.spells m → SpellsNothing AreFiles m
  nothing-here none [] h = some h
  nothing-here none (x ∷ xs) h = none x h.0 h.1

  module _ (x : ListedFile) (q : List ℕ) (a : Accepts file.spells m x q) where
    pub nothing-after-one : SpellsNothing AreFiles q → SpellsNothing AreFiles m
    nothing-after-one none [] h = some h
    nothing-after-one none (y ∷ ys) h = none ys (subst (AreFiles ys) (a.only y h.0 h.1).1 h.2)

    others : (xs : List ListedFile) → AreFiles xs m → (ys : List ListedFile) × AreFiles ys q
    others [] h = absurd (some h)
    others (y ∷ ys) h = (ys, subst (AreFiles ys) (a.only y h.0 h.1).1 h.2)

    pub left-after : ((xs : List ListedFile) × AreFiles xs m) → (ys : List ListedFile) × AreFiles ys q
    left-after h = others h.0 h.1

    pub gives-next : (v : FileView) → file_in v ≡ x → (xs : List ListedFile) → AreFiles xs m → GivesFile xs (Some v) q
    gives-next v is [] h = absurd (some h)
    gives-next v is (y ∷ ys) h =
        let e = a.only y h.0 h.1 in
        (ap (λ (z : ListedFile). Some z) (is ∙ sym e.0), subst (AreFiles ys) e.1 h.2)

  pub never-refused : Refuses file.spells m → (xs : List ListedFile) → AreFiles xs m → ⊥
  never-refused none [] h = some h
  never-refused none (x ∷ xs) h = none x h.0 h.1

-- ---- files that were read from the front

-- these files are the front of s: with any that r is, they are all of s; and s is none where r is none, with its error
pub record Behind (s : List ℕ) (xs : List ListedFile) (r : List ℕ) : Type 0 where
  pub all : (ys : List ListedFile) → AreFiles ys r → AreFiles (xs ++ ys) s
  pub nothing : SpellsNothing AreFiles r → SpellsNothing AreFiles s
  pub error : (e : DecodeError) → RepeatedFault file.spells file.fault r e → RepeatedFault file.spells file.fault s e

pub at-start : (s : List ℕ) → Behind s [] s
at-start s = record { all = λ ys h. h; nothing = λ none. none; error = λ e h. h }

pub one-more : (s m q : List ℕ) (xs : List ListedFile) (x : ListedFile) → Behind s xs m → m ≢ []
    → Accepts file.spells m x q → Behind s (xs ++ x ∷ []) q
one-more s m q xs x h some a = record {
  all = λ ys k.
      subst (λ (zs : List ListedFile). AreFiles zs s) (sym (append_assoc xs (x ∷ []) ys))
      (h.all (x ∷ ys) (q, a.spells, k));
  nothing = λ none. h.nothing (nothing-after-one m some x q a none);
  error = λ e k. h.error e (AfterMember x q a k);
}

pub all-behind : (s r : List ℕ) (xs : List ListedFile) → Behind s xs r → r ≡ [] → AreFiles xs s
all-behind s r xs h end = subst (λ (zs : List ListedFile). AreFiles zs s) (append-nil xs) (h.all [] end)

nothing-there : (x : ListedFile) (p r : List ℕ) → [] ≡ p ++ r → file.spells x p → ⊥
nothing-there x [] r e k = nowhere x k
nothing-there x (y ∷ ys) r e k = absurd (cc)

pub gives-none : (m : List ℕ) → m ≡ [] → (xs : List ListedFile) → AreFiles xs m → GivesFile xs None m
gives-none m end [] h = (refl, h)
gives-none m end (x ∷ xs) h = absurd (nothing-there x h.1.front h.0 (sym end ∙ h.1.parts) h.1.spelled)
