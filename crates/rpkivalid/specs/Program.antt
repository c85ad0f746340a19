-- What the program does: from its words to its files and its streams.
use Rattle.std.specs.Prelude.{◌≡◌, ◌⊎◌, ◌++◌, ℕ, Bool, true, false, List, [], Option, Some, None, IfSome, codes}
use Rattle.jiff.specs.Types.{DateTime}
use Rattle.sha1.specs.Sha1.{sha1}
use Rattle.sha2.specs.Sha256.{sha256}
use Rattle.rpki.specs.PublicKey.{KeyParts}
use Rattle.rpki_cli.specs.Delivered.{IsDelivered, MadeParts}
use Rattle.rpki_cli.specs.Ready.{IsReady, IsUnready}
use Rattle.rpki_cli.specs.Spread.{Listed, spread}
use Rattle.rpki_cli.specs.World.{Tells, World}
use Rattle.rpki_objects.specs.declared.strictness.Strictness.{Strictness}
use Rattle.rpki_rsa.specs.Key.{IsSignatureBy}
use Rattle.rpki_validation.specs.Basis.{Basis}
use Rattle.rpkivalid.specs.Complaint.{complaint_text}
use Rattle.rpkivalid.specs.Found.{basis_with}
use Rattle.rpkivalid.specs.Locators.{Holds}
use Rattle.rpkivalid.specs.Request.{Asked, help, payloads, version, wanted_of}
use Rattle.rpkivalid.specs.Run.{Complains, Gives, IsRunOf, RanParts}
use Rattle.rpkivalid.specs.Sinks.{SinkParts, sinks_of}
use Rattle.rpkivalid.specs.Words.{memory_text}

-- signatures are RSA's (RFC 8017 8.2.2), over SHA-256, and none is ECDSA's; digests are SHA-1 and SHA-256
abbrev pub rpki_basis : Strictness → DateTime → ℕ → KeyParts → Basis
rpki_basis = basis_with {X = Unit {0}} (record {
  rsa_of = λ _ bits message signature. IsSignatureBy bits (sha256 message) signature;
  ecdsa_of = λ _ _ _ _. ⊥;
  sha1_of = λ _ octets. sha1 octets;
  sha256_of = λ _ octets. sha256 octets;
}) tt

-- what is made in memory of what the words ask for: the help, the version, a run; or what is wrong with the words,
-- which is told
pub record IsMadeOf (help_text version_text : List ℕ) (words : List (List ℕ)) (holds : Holds)
    (clock : Option (Option DateTime)) (r : RanParts) : Type 0 where
  pub of_help : wanted_of words ≡ Some help → Gives help_text r
  pub of_version : wanted_of words ≡ Some version → Gives version_text r
  pub of_run : (a : Asked) → wanted_of words ≡ Some (payloads a) → IsRunOf (rpki_basis a.strictness) holds clock a r
  pub of_others : wanted_of words ≡ None → Complains (complaint_text words) r

-- what is told of the lines: all of them, or fewer where less is to be told
abbrev pub AreTold : (quiet : Bool) → (lines told : List ℕ) → Type 0
AreTold false lines told = told ≡ lines
AreTold true lines told = Unit {0}

-- all lines: of what can't be read, of which there are none where it is known what files hold; and the report
pub record AreLines (holds : Holds) (report lines : List ℕ) : Type 0 where
  pub unread : List ℕ
  pub known : IfSome holds (λ files. unread ≡ [])
  pub are : lines ≡ unread ++ report

-- the entry of the log ends with all lines
abbrev pub IsEntry : (lines entry : List ℕ) → Type 0
IsEntry lines entry = (head : List ℕ) × (entry ≡ head ++ lines)

-- what is made, with this report
abbrev pub ran_as : MadeParts → List ℕ → RanParts
ran_as made report =
    record { text = made.text; metrics = made.counts; report = report; status = made.status }

-- the same, with the entry of the log, and the lines of standard error
pub record IsMade (help_text version_text : List ℕ) (words : List (List ℕ)) (holds : Holds)
    (clock : Option (Option DateTime)) (quiet : Bool) (made : MadeParts) : Type 0 where
  pub report : List ℕ
  pub of_words : IsMadeOf help_text version_text words holds clock (ran_as made report)
  pub all : List ℕ
  pub lines : AreLines holds report all
  pub entry : IsEntry all made.entry
  pub told : AreTold quiet all made.lines

-- A whole run: where memory fails, that is told, and the status is 2; where an output can't be written, that is told
-- before anything is read, and the status is 2; else what is made is delivered.
pub data IsProgram (help_text version_text : List ℕ) (words : List (List ℕ)) (holds : Holds)
    (clock : Option (Option DateTime)) (sinks : SinkParts) (old new : World) (status : ℕ) : Type 0 where
  Starved : (mid : World) → (mid ≡ old) ⊎ IsReady old mid sinks.to → Tells mid new memory_text
      → status ≡ 2 → IsProgram help_text version_text words holds clock sinks old new status
  Unready : IsUnready old new (codes "rpkivalid") sinks.to → status ≡ 2
      → IsProgram help_text version_text words holds clock sinks old new status
  Ran : (mid : World) (made : MadeParts) → IsReady old mid sinks.to
      → IsMade help_text version_text words holds clock sinks.quiet made
      → IsDelivered mid new (codes "rpkivalid") sinks.to made status
      → IsProgram help_text version_text words holds clock sinks old new status

-- the words of a run: those that are given, with the locators in a folder in place of the folder; where nothing is
-- known of folders, any
abbrev pub AreWords : Option Listed → (given words : List (List ℕ)) → Type 0
AreWords listed given words =
    IfSome listed (λ all. words ≡ spread (all (codes ".tal")) (codes "--tal") false given)

-- a whole run of the words that are given
pub record IsRunOn (help_text version_text : List ℕ) (given : List (List ℕ)) (listed : Option Listed) (holds : Holds)
    (clock : Option (Option DateTime)) (old new : World) (status : ℕ) : Type 0 where
  pub words : List (List ℕ)
  pub are : AreWords listed given words
  pub runs : IsProgram help_text version_text words holds clock (sinks_of words) old new status
