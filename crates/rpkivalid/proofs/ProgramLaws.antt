-- What a run makes, where it writes, and how it ends.
use Rattle.std.proofs.Common.{◌≡◌, ◌∙◌, ◌⊎◌, inl, ℕ, Bool, false, List, ap, map, refl, string_bytes, subst}
use Rattle.std.specs.Prelude.{IfErr, IfOk, None, Ok, Err, Option, Result, Some, String, codes, drop}
use Rattle.jiff.specs.Types.{DateTime}
use Rattle.rpki_cli.specs.Delivered.{IsDelivered, MadeParts}
use Rattle.rpki_cli.specs.Ready.{IsReady, IsUnready, OutputParts}
use Rattle.rpki_cli.specs.Spread.{Listed, spread}
use Rattle.rpki_cli.specs.World.{Tells, World}
use Rattle.rpkivalid.specs.declared.arguments.Wordless.{Wordless}
use Rattle.rpkivalid.specs.declared.arguments.Wordless.TheVariants.{OutOfMemory}
use Rattle.rpkivalid.specs.Arguments.{wordless_text}
use Rattle.rpkivalid.specs.Locators.{Holds}
use Rattle.rpkivalid.specs.declared.run.Ran.{Ran}
use Rattle.rpkivalid.specs.Complaint.{complaint_text}
use Rattle.rpkivalid.specs.Program.{IsMade, IsMadeOf, IsProgram, IsRunOn, Ran as Ended, Starved, Unready}
use Rattle.rpkivalid.specs.Program.{rpki_basis}
use Rattle.rpkivalid.specs.Request.{Asked, help, payloads, version, wanted_of}
use Rattle.rpkivalid.specs.Run.{IsRunOf}
use Rattle.rpkivalid.specs.RunView.{ComplainsBy, GivesBy, ran_by}
use Rattle.rpkivalid.specs.Sinks.{SinkParts, sinks}
use Rattle.rpkivalid.specs.Words.{memory_text}

-- ---- what is made

-- of each that words may ask for
pub made-of : {E : Type 0} (help_text version_text : List ℕ) (words : List (List ℕ)) (holds : Holds)
    (clock : Option (Option DateTime)) (r : Result Ran E) → (wanted_of words ≡ Some help → IfOk r (GivesBy help_text))
    → (wanted_of words ≡ Some version → IfOk r (GivesBy version_text))
    → ((a : Asked) → wanted_of words ≡ Some (payloads a)
    → IfOk r (λ ran. IsRunOf (rpki_basis a.strictness) holds clock a (ran_by ran)))
    → (wanted_of words ≡ None → IfOk r (ComplainsBy (complaint_text words)))
    → IfOk r (λ ran. IsMadeOf help_text version_text words holds clock (ran_by ran))
made-of help_text version_text words holds clock (Err e) a b c d = tt
made-of help_text version_text words holds clock (Ok ran) a b c d =
    record { of_help = a; of_version = b; of_run = c; of_others = d }

abbrev pub made : (text counts entry lines : List ℕ) → ℕ → MadeParts
made text counts entry lines status =
    record { text = text; counts = counts; entry = entry; lines = lines; status = status }

-- of equal texts the same is delivered
pub delivered-as : (old new : World) (program : List ℕ) (to : OutputParts)
    (t u v w text counts entry lines : List ℕ) (n status : ℕ) → t ≡ text → u ≡ counts → v ≡ entry → w ≡ lines
    → IsDelivered old new program to (made t u v w n) status
    → IsDelivered old new program to (made text counts entry lines n) status
delivered-as old new program to t u v w text counts entry lines n status a b c d h =
    subst (λ x. IsDelivered old new program to (made text counts entry x n) status) d
    (subst (λ x. IsDelivered old new program to (made text counts x w n) status) c
    (subst (λ x. IsDelivered old new program to (made text x v w n) status) b
    (subst (λ x. IsDelivered old new program to (made x u v w n) status) a h)))

-- ---- where it writes

pub sinks-same : (o m l o' m' l' : Option (List ℕ)) (q r : Bool) → o ≡ o' → m ≡ m' → l ≡ l' → q ≡ r
    → sinks o m l q ≡ sinks o' m' l' r
sinks-same o m l o' m' l' q r a b c d =
    ap (λ x. sinks x m l q) a ∙ (ap (λ x. sinks o' x l q) b ∙ (ap (λ x. sinks o' m' x q) c ∙ ap (sinks o' m' l') d))

-- ---- how it ends

module _ (help_text version_text : List ℕ) (words : List (List ℕ)) (holds : Holds) (clock : Option (Option DateTime))
    (s t : SinkParts) (old : World) (status : ℕ) where
  -- a run that made something
  pub ran : (mid new : World) (made : MadeParts) → s ≡ t → IsReady old mid s.to
      → IsMade help_text version_text words holds clock s.quiet made
      → IsDelivered mid new (codes "rpkivalid") s.to made status
      → IsProgram help_text version_text words holds clock t old new status
  ran mid new made e r m d =
      subst (λ x. IsProgram help_text version_text words holds clock x old new status) e (Ended mid made r m d)

  -- one of which an output can't be written
  pub unready : (new : World) → s ≡ t → IsUnready old new (codes "rpkivalid") s.to → status ≡ 2
      → IsProgram help_text version_text words holds clock t old new status
  unready new e u n =
      subst (λ x. IsProgram help_text version_text words holds clock x old new status) e (Unready u n)

  -- one without memory
  pub starved : (mid new : World) → s ≡ t → (mid ≡ old) ⊎ IsReady old mid s.to → Tells mid new memory_text → status ≡ 2
      → IsProgram help_text version_text words holds clock t old new status
  starved mid new e r h n =
      subst (λ x. IsProgram help_text version_text words holds clock x old new status) e (Starved mid r h n)

-- ---- from its arguments

module _ (help_text version_text : List ℕ) (listed : Option Listed) (holds : Holds) (clock : Option (Option DateTime))
    (old new : World) (status : ℕ) where
  -- a run without memory, whatever is known of folders
  pub starved-on : (given : List (List ℕ)) → Tells old new memory_text → status ≡ 2
      → IsRunOn help_text version_text given listed holds clock old new status
  starved-on given = of-listed listed
    where
      of-listed : (l : Option Listed) → Tells old new memory_text → status ≡ 2
          → IsRunOn help_text version_text given l holds clock old new status
      of-listed None t e = record { words = given; are = tt; runs = Starved old (inl refl) t e }
      of-listed (Some all) t e = record {
        words = spread (all (codes ".tal")) (codes "--tal") false given;
        are = refl;
        runs = Starved old (inl refl) t e;
      }

  -- the run of words that were made of arguments
  pub of-words : {A E Z : Type 0} (arguments : Result A E) (all : A → List (String Z)) (words : List (String Z))
      → IfOk arguments (λ a. words ≡ drop 1 (all a))
      → IsRunOn help_text version_text (map string_bytes words) listed holds clock old new status
      → IfOk arguments (λ a.
      IsRunOn help_text version_text (map string_bytes (drop 1 (all a))) listed holds clock old new status)
  of-words (Ok a) all words e h =
      subst (λ ws. IsRunOn help_text version_text (map string_bytes ws) listed holds clock old new status) e h
  of-words (Err e) all words f h = tt

  -- or there was no memory for them
  pub no-memory : {A E Z : Type 0} (arguments : Result A E) (all : A → List (String Z)) (wordless : Wordless)
      → IfOk arguments (λ a. wordless ≡ OutOfMemory) → Tells old new (wordless_text wordless) → status ≡ 2
      → IfOk arguments (λ a.
      IsRunOn help_text version_text (map string_bytes (drop 1 (all a))) listed holds clock old new status)
  no-memory (Ok a) all wordless e t n =
      starved-on (map string_bytes (drop 1 (all a))) (subst (λ (w : Wordless). Tells old new (wordless_text w)) e t) n
  no-memory (Err e) all wordless f t n = tt

-- there are arguments
pub no-fault : {A E X W : Type 0} (arguments : Result A E) (words : X) (fault : E → W) (P : E → Type 0)
    → IfErr arguments (λ e. Ok words ≡ Err (fault e)) → IfErr arguments P
no-fault (Ok a) words fault P h = tt
no-fault (Err e) words fault P h = absurd (let r = h in cc)

-- there are none, and why is told
pub told-fault : {A E X : Type 0} (arguments : Result A E) (made : Result X Wordless) (wordless : Wordless)
    (fault : E → Wordless) (old new : World) (status : ℕ) → made ≡ Err wordless
    → IfErr arguments (λ e. made ≡ Err (fault e)) → Tells old new (wordless_text wordless) → status ≡ 2
    → IfErr arguments (λ e. (status ≡ 2) × Tells old new (wordless_text (fault e)))
told-fault (Ok a) made wordless fault old new status m f t n = tt
told-fault (Err e) made wordless fault old new status m f t n =
    let same : wordless ≡ fault e = (let r = f in cc) in
    (n, subst (λ (w : Wordless). Tells old new (wordless_text w)) same t)
