-- What words ask for.
use Rattle.std.proofs.Common.{◌≡◌, ◌↔◌, ℕ, ◌<◌, true, false, List, [], ◌∷◌, ◌++◌, length, drop, ap, refl, arith}
use Rattle.std.proofs.Common.{◌∙◌, inl, inr, subst, sym}
use Rattle.std.specs.Prelude.{Bool, Option, Some, None, IsSome, option_to_list, option_and_then, option_map, codes}
use Rattle.std.specs.Prelude.{if◌then◌else◌}
use Rattle.clap.specs.Kinds.{HasKind, IsAmong, Kinds}
use Rattle.clap.specs.Values.{kind_of}
use Rattle.clap.specs.Walk.{is_empty}
use Rattle.clap.specs.Words.{App, Row, all_of, fault_of, first_of, is_simple_and_free, matches_of}
use Rattle.clap.specs.declared.error.Error.{Error}
use Rattle.clap.specs.declared.error.kind.ErrorKind.{ErrorKind}
use Rattle.clap.specs.declared.error.kind.ErrorKind.TheVariants.{OutOfMemory}
use Rattle.rpki_fields.specs.declared.rendering.Form.{Form}
use Rattle.rpkicert.specs.declared.profile.Inspection.{Inspection}
use Rattle.rpkicert.specs.Request.{Asked, asked, is_given, form_of, named_inspection, some_files, request_of, files}
use Rattle.rpkicert.specs.Request.{wanted_in, named_list, command_app, matched}

-- the rest of a list after its first element
pub drop-next : {A : Type 0} (old new : List A) (next : Option A) (n : ℕ) → n ≡ length old
    → old ≡ option_to_list next ++ new → IsSome next ↔ (0 < n) → drop 1 old ≡ new
drop-next [] new None n size is some = is
drop-next (x ∷ xs) new None n size is some = absurd (let h = some.1 (omega (arith, size)) in cc)
drop-next old new (Some x) n size is some = ap (λ w. drop 1 w) is

-- a request from its parts
pub of-parts : (rows : List Row) (inspection : Option (Option Inspection)) (list : Option (Option (List ℕ)))
    (all : Option (List (List ℕ)))
    → inspection ≡ named_inspection (is_given (codes "check") rows) (is_given (codes "lax") rows)
    (first_of (codes "profile") rows)
    → list ≡ named_list (first_of (codes "issuer") rows) (first_of (codes "crl") rows)
    → all ≡ some_files (all_of (codes "FILE") rows)
    → option_and_then (λ p. option_and_then (λ l. option_map (asked (first_of (codes "issuer") rows)
    (first_of (codes "at") rows) (form_of (is_given (codes "json") rows)) (is_given (codes "check") rows)
    (is_given (codes "recursive") rows) p l) all) list)
    inspection ≡ request_of rows
of-parts rows inspection list all b l d = rw (b, l, d) refl

-- the same, where there are all
pub of-all : (rows : List Row) (issuer moment : Option (List ℕ)) (form : Form) (check recursive : Bool)
    (inspection : Option Inspection) (list : Option (List ℕ)) (all : List (List ℕ))
    → issuer ≡ first_of (codes "issuer") rows
    → moment ≡ first_of (codes "at") rows → form ≡ form_of (is_given (codes "json") rows)
    → check ≡ is_given (codes "check") rows → recursive ≡ is_given (codes "recursive") rows
    → Some inspection ≡ named_inspection (is_given (codes "check") rows) (is_given (codes "lax") rows)
    (first_of (codes "profile") rows)
    → Some list ≡ named_list (first_of (codes "issuer") rows) (first_of (codes "crl") rows)
    → Some all ≡ some_files (all_of (codes "FILE") rows)
    → Some (asked issuer moment form check recursive inspection list all) ≡ request_of rows
of-all rows issuer moment form check recursive inspection list all i m f c r b l d =
    rw (i, m, f, c, r) (of-parts rows (Some inspection) (Some list) (Some all) b l d)

-- the files that are asked for
pub the-files : (rows : List Row) (x a : Asked) → is_given (codes "help") rows ≡ false
    → is_given (codes "version") rows ≡ false
    → Some x ≡ request_of rows → wanted_in rows ≡ Some (files a) → x ≡ a
the-files rows x a help version request wanted =
    let e : Some (files x) ≡ Some (files a) = rw (help, version, ← request) at wanted in
    cc

-- ---- words that aren't matched

has-one : (kinds : Kinds) (k : ErrorKind) → IsAmong k kinds → is_empty kinds ≡ false
has-one [] k h = absurd h
has-one (x ∷ xs) k h = grind (arith)

-- where another kind comes than want of memory, there is a fault
pub no-match : (app : App) (words : List (List ℕ)) (e : Error)
    → (is_simple_and_free app ≡ true → HasKind (fault_of app words) e) → app ≡ command_app
    → (kind_of e ≡ OutOfMemory → ⊥) → None ≡ matched words
no-match app words e fails same not =
    let free : is_simple_and_free app ≡ true = ap is_simple_and_free same ∙ refl in
    by (subst (λ (a : App). HasKind (fault_of a words) e) same (fails free))
  where
    by : HasKind (fault_of command_app words) e → None ≡ matched words
    by (inl k) = absurd (not k)
    by (inr a) =
        sym (ap (λ b. if b then Some (matches_of command_app words) else None) (has-one _ (kind_of e) a))
