-- What is said of rejections, in sequence.
use Rattle.std.proofs.Common.{◌≡◌, inl, ℕ, List, [], ◌∷◌, ◌++◌, length, refl, sym, subst, append_assoc, append-nil}
use Rattle.std.proofs.Common.{arith}
use Rattle.std.specs.Prelude.{Option, Some, None, IfSome}
use Rattle.std.specs.List.{flat_map}
use Rattle.rpki_contents.specs.ListedFile.{ListedFile}
use Rattle.rpki_contents.specs.Manifest.{ManifestParts}
use Rattle.rpki_contents.specs.declared.route_origin.RouteOrigin.{RouteOrigin}
use Rattle.rpki_objects.specs.TypedObject.{TypedParts}
use Rattle.rpki_objects.specs.declared.strictness.Strictness.{Strictness}
use Rattle.rpki_validation.specs.declared.outcome.Rejection.{Rejection}
use Rattle.rpkivalid.specs.declared.question.Question.{Question}
use Rattle.rpkivalid.specs.Locators.{Holds}
use Rattle.rpkivalid.specs.Refused.{AreRefused, IsManifestIn, SayFiles, SayListed, SaysAt, SaysRejected}
use Rattle.rpkivalid.specs.Refused.{attestation_uri, refused_line}

-- what is said of those in front of the rest
abbrev pub IsRefusedUpTo : (List ℕ → Option (List ℕ)) → List ℕ → Strictness → Question → List ℕ → List Rejection
    → List Rejection → List ℕ → Type 0
IsRefusedUpTo files folder strictness question name all rest text =
    (more : List ℕ) → AreRefused files folder strictness question name rest more
    → AreRefused files folder strictness question name all (text ++ more)

module _ (folder : List ℕ) (strictness : Strictness) (question : Question) (name : List ℕ) (all : List Rejection) where
  pub refused-step : (holds : Holds) (rest : List Rejection) (r : Rejection) (text : List ℕ) (said : List RouteOrigin)
      → IfSome holds (λ files. IsRefusedUpTo files folder strictness question name all (r ∷ rest) text)
      → IfSome holds (λ files. SaysRejected files folder strictness r.is_point r.uri said)
      → IfSome holds (λ files. IsRefusedUpTo files folder strictness question name all rest
      (text ++ flat_map (refused_line question name r) said))
  refused-step None rest r text said before is = tt
  refused-step (Some files) rest r text said before is = λ more h.
      let lines = flat_map (refused_line question name r) said in
      subst (λ (t : List ℕ). AreRefused files folder strictness question name all t)
      (sym (append_assoc text lines more))
      (before (lines ++ more) (said, more, is, h, refl))

  pub refused-end : (holds : Holds) (rest : List Rejection) (text : List ℕ) → length rest ≡ 0
      → IfSome holds (λ files. IsRefusedUpTo files folder strictness question name all rest text)
      → IfSome holds (λ files. AreRefused files folder strictness question name all text)
  refused-end None rest text none before = tt
  refused-end (Some files) (r ∷ rest) text none before = absurd (omega (arith, none))
  refused-end (Some files) [] text none before =
      subst (λ (t : List ℕ). AreRefused files folder strictness question name all t) (append-nil text) (before [] refl)

-- ---- the files of a point

-- what is said of those in front of the rest
abbrev pub SayUpTo : (List ℕ → Option (List ℕ)) → List ℕ → Strictness → List ℕ → List ListedFile → List ListedFile
    → List RouteOrigin → Type 0
SayUpTo files folder strictness point all rest said =
    (more : List RouteOrigin) → SayFiles files folder strictness point rest more
    → SayFiles files folder strictness point all (said ++ more)

module _ (folder : List ℕ) (strictness : Strictness) (point : List ℕ) (all : List ListedFile) where
  pub files-step : (holds : Holds) (rest : List ListedFile) (file : ListedFile) (said one : List RouteOrigin)
      → IfSome holds (λ files. SayUpTo files folder strictness point all (file ∷ rest) said)
      → IfSome holds (λ files. SaysAt files folder strictness (attestation_uri point file) one)
      → IfSome holds (λ files. SayUpTo files folder strictness point all rest (said ++ one))
  files-step None rest file said one before is = tt
  files-step (Some files) rest file said one before is = λ more h.
      subst (λ (l : List RouteOrigin). SayFiles files folder strictness point all l) (sym (append_assoc said one more))
      (before (one ++ more) (one, more, is, h, refl))

  pub files-end : (holds : Holds) (rest : List ListedFile) (said : List RouteOrigin) → length rest ≡ 0
      → IfSome holds (λ files. SayUpTo files folder strictness point all rest said)
      → IfSome holds (λ files. SayFiles files folder strictness point all said)
  files-end None rest said none before = tt
  files-end (Some files) (file ∷ rest) said none before = absurd (omega (arith, none))
  files-end (Some files) [] said none before =
      subst (λ (l : List RouteOrigin). SayFiles files folder strictness point all l) (append-nil said) (before [] refl)

-- those that a manifest lists
pub listed-there : (folder : List ℕ) (strictness : Strictness) (point octets : List ℕ) (x : TypedParts ManifestParts)
    → IsManifestIn strictness octets x → (holds : Holds) (all : List RouteOrigin)
    → IfSome holds (λ files. SayFiles files folder strictness point x.content.files all)
    → IfSome holds (λ files. SayListed files folder strictness point (Some octets) all)
listed-there folder strictness point octets x is None all h = tt
listed-there folder strictness point octets x is (Some files) all h = inl (x, is, h)
