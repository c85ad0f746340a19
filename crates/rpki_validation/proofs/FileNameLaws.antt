-- Files on a manifest have names of files, without a slash; its list is one of them.
use Rattle.std.proofs.Common.{◌≡◌, ℕ, suc, arith, Bool, true, false, List, [], ◌∷◌, Option, Some, sym, ap, subst}
use Rattle.std.proofs.Common.{IsTrue, if◌then◌else◌}
use Rattle.std.proofs.lemmas.List.Elements.{All-nil, All-cons, All-contains}
use Rattle.std.specs.List.{Contains}
use Rattle.std.specs.Prelude.{All, filter}
use Rattle.rpki_der.specs.Prelude.{SpellsEach}
use Rattle.rpki_contents.specs.FileName.{is_file_name}
use Rattle.rpki_contents.specs.ListedFile.{ListedFile, kept_file}
use Rattle.rpki_contents.specs.Manifest.{ManifestParts, files_of}
use Rattle.rpki_objects.specs.TypedObject.{TypedParts, manifest_object}
use Rattle.rpki_validation.specs.Publication.{is_list, list_file, only}

abbrev IsNamed : ListedFile → Type 0
IsNamed file = IsTrue (is_file_name file.0)

each-named : (files : List ListedFile) (s : List ℕ) → SpellsEach kept_file.spells files s → All IsNamed files
each-named [] s h = All-nil IsNamed
each-named (x ∷ xs) s (r, h, more) =
    let name = h.spelled.spelled.one.stands in
    All-cons IsNamed x xs (subst (λ (n : List ℕ). IsTrue (is_file_name n)) (sym name.0) name.1) (each-named xs r more)

-- of a manifest
pub files-named : (strict : Bool) (m : TypedParts ManifestParts) (octets : List ℕ)
    → (manifest_object strict).spells m octets → All IsNamed m.content.files
files-named strict m octets h =
    let it = h.stands.content in
    subst (All IsNamed) (ap files_of (sym it.stands.fields))
    (each-named (files_of it.value) _ it.spelled.spelled.two.two.two.two.spelled)

-- ---- the list

if-named : (x : ListedFile) (b : Bool) (rest : List ListedFile) → IsNamed x → All IsNamed rest
    → All IsNamed (if b then x ∷ rest else rest)
if-named x true rest n all = All-cons IsNamed x rest n all
if-named x false rest n all = all

filter-named : (f : ListedFile → Bool) (xs : List ListedFile) → All IsNamed xs → All IsNamed (filter f xs)
filter-named f [] h = All-nil IsNamed
filter-named f (x ∷ xs) h =
    if-named x (f x) (filter f xs) (h 0 x (omega arith)) (filter-named f xs (λ k d lt. h (suc k) d (omega (arith, lt))))

only-named : (xs : List ListedFile) (file : ListedFile) → All IsNamed xs → only xs ≡ Some file → IsNamed file
only-named [] file h e = absurd (cc)
only-named (x ∷ []) file h e = subst IsNamed (is x file e) (h 0 x (omega arith)) where
  is : (a b : ListedFile) → ◌≡◌ {A = Option ListedFile} (Some a) (Some b) → a ≡ b
  is a b k = cc
only-named (x ∷ y ∷ zs) file h e = absurd (cc)

pub list-named : (files : List ListedFile) (file : ListedFile) → All IsNamed files → list_file files ≡ Some file
    → IsNamed file
list-named files file h e = only-named (filter is_list files) file (filter-named is_list files h) e

pub file-named : (files : List ListedFile) (file : ListedFile) → All IsNamed files → Contains files file
    → IsNamed file
file-named files file h at = All-contains IsNamed files file h at
