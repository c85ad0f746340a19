-- What words ask for.
use Rattle.std.proofs.Common.{◌≡◌, ◌∙◌, ℕ, true, false, List, [], ◌∷◌, inl, inr, ap, arith, refl, subst, sym}
use Rattle.std.specs.Prelude.{Option, Some, None, option_and_then, option_map, codes, if◌then◌else◌}
use Rattle.clap.specs.Kinds.{HasKind, IsAmong, Kinds}
use Rattle.clap.specs.Values.{kind_of}
use Rattle.clap.specs.Walk.{is_empty}
use Rattle.clap.specs.Words.{App, Row, all_of, fault_of, first_of, is_simple_and_free, matches_of}
use Rattle.clap.specs.declared.error.Error.{Error}
use Rattle.clap.specs.declared.error.kind.ErrorKind.{ErrorKind}
use Rattle.clap.specs.declared.error.kind.ErrorKind.TheVariants.{OutOfMemory}
use Rattle.rpki_objects.specs.declared.strictness.Strictness.{Strictness}
use Rattle.rpki_payloads.specs.declared.form.Form.{Form}
use Rattle.rpkivalid.specs.Request.{Asked, asked, is_given, form_of, some_files, strictness_of, request_of, payloads}
use Rattle.rpkivalid.specs.Request.{files_or_none}
use Rattle.rpkivalid.specs.Request.{command_app, matched, wanted_in}

-- a request from its parts
pub of-parts : (rows : List Row) (form : Option Form) (cache : Option (List ℕ)) (all : Option (List (List ℕ)))
    → form ≡ form_of (first_of (codes "form") rows) → cache ≡ first_of (codes "cache") rows
    → all ≡ some_files (all_of (codes "tal") rows)
    → option_and_then (λ f. option_and_then (λ c. option_map (asked (strictness_of (is_given (codes "strict") rows))
    (first_of (codes "at") rows) (first_of (codes "output") rows) (first_of (codes "depth") rows)
    (files_or_none (all_of (codes "exceptions") rows)) (first_of (codes "metrics") rows)
    (first_of (codes "explain") rows) (first_of (codes "as") rows) (first_of (codes "compare") rows)
    (first_of (codes "least") rows) f c) all) cache)
    form
    ≡ request_of rows
of-parts rows form cache all f c a = rw (f, c, a) refl

-- the same, where there are all
pub of-all : (rows : List Row) (strictness : Strictness)
    (moment output depth : Option (List ℕ)) (exceptions : List (List ℕ))
    (metrics explain number compare least : Option (List ℕ))
    (form : Form) (cache : List ℕ) (all : List (List ℕ)) → strictness ≡ strictness_of (is_given (codes "strict") rows)
    → moment ≡ first_of (codes "at") rows
    → output ≡ first_of (codes "output") rows → depth ≡ first_of (codes "depth") rows
    → exceptions ≡ files_or_none (all_of (codes "exceptions") rows) → metrics ≡ first_of (codes "metrics") rows
    → explain ≡ first_of (codes "explain") rows → number ≡ first_of (codes "as") rows
    → compare ≡ first_of (codes "compare") rows → least ≡ first_of (codes "least") rows
    → Some form ≡ form_of (first_of (codes "form") rows) → Some cache ≡ first_of (codes "cache") rows
    → Some all ≡ some_files (all_of (codes "tal") rows)
    → Some (asked strictness moment output depth exceptions metrics explain number compare least form cache all)
    ≡ request_of rows
of-all rows strictness moment output depth exceptions metrics explain number compare least form cache all s m o d e k x
    n t l f c a =
    rw (s, m, o, d, e, k, x, n, t, l) (of-parts rows (Some form) (Some cache) (Some all) f c a)

-- the run that is asked for
pub the-run : (rows : List Row) (x a : Asked) → is_given (codes "help") rows ≡ false
    → is_given (codes "version") rows ≡ false
    → Some x ≡ request_of rows → wanted_in rows ≡ Some (payloads a) → x ≡ a
the-run rows x a help version request wanted =
    let e : Some (payloads x) ≡ Some (payloads a) = rw (help, version, ← request) at wanted in
    cc

-- ---- words that aren't matched

has-one : (kinds : Kinds) (k : ErrorKind) → IsAmong k kinds → is_empty kinds ≡ false
has-one [] k h = absurd h
has-one (x ∷ xs) k h = grind (arith)

-- where another kind comes than want of memory, there is a fault
pub no-match : (app : App) (words : List (List ℕ)) (e : Error)
    → (is_simple_and_free app ≡ true → HasKind (fault_of app words) e) → app ≡ command_app
    → (kind_of e ≡ OutOfMemory → ⊥) → None ≡ matched words
no-match app words e fails same not =
    let free : is_simple_and_free app ≡ true = ap is_simple_and_free same ∙ refl in
    by (subst (λ (a : App). HasKind (fault_of a words) e) same (fails free))
  where
    by : HasKind (fault_of command_app words) e → None ≡ matched words
    by (inl k) = absurd (not k)
    by (inr a) =
        sym (ap (λ b. if b then Some (matches_of command_app words) else None) (has-one _ (kind_of e) a))
