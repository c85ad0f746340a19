-- What a run returns, and what is seen of it.
use Rattle.std.specs.Prelude.{◌≡◌, ◌≢◌, ◌⊎◌, ℕ, Bool, true, ◌<◌, ◌≤◌, ◌^◌, List, [], ◌∷◌, ◌++◌, length, Option, Some}
use Rattle.std.specs.Prelude.{None, Result, Ok, Err, IfSome}
use Rattle.std.specs.Io.KnownBytes.{Appends}
use Rattle.std.specs.List.{flat_map}
use Rattle.rpki_der.specs.declared.error.DecodeError.{DecodeError}
use Rattle.rpki_der.specs.declared.error.DecodeError.TheVariants as der
use Rattle.rpki_der.specs.Reading.{Refuses, SpellsNothing, IsWholeFault}
use Rattle.rpki_der.specs.Written.{AppendsCut}
use Rattle.rpki.specs.Oids.{sha256_with_rsa_encryption}
use Rattle.rpki.specs.Algorithm.{SpellsAlgorithm}
use Rattle.rpki.specs.AlgorithmOctets.{algorithm_octets}
use Rattle.rpki.specs.SignedData.{SignedParts, SpellsSigned, written_contents, written_signed, IsShortSigned}
use Rattle.rpki.specs.PublicKey.{KeyParts, SpellsKey}
use Rattle.rpki.specs.Name.{SpellsEach, SpellsNameOctets}
use Rattle.rpki.specs.AlgorithmFault.{algorithm}
use Rattle.rpki.specs.SignedFault.{signed_sequence}
use Rattle.rpki.specs.KeyFault.{key}
use Rattle.rpki.specs.NameFault.{IsNameFault}
use Rattle.rpki.specs.ExtensionFault.{extension}
use Rattle.rpki.specs.ExtensionValue.{ExtensionParts, SpellsExtension, written_extension}
use Rattle.rpki_text.specs.HexText.{hex_text}
use Rattle.sha1.specs.Sha1.{sha1}
use Rattle.rpki_text.specs.declared.uri.error.Error.{Error}
use Rattle.rpkibasic.specs.UriLines.{without_last_line_feed, uri_refusal_of, uri_lines}
use Rattle.rpkibasic.specs.NameLines.{AreNameLines}
use Rattle.rpkibasic.specs.Input.{most_calls, most_octets}
use Rattle.rpkibasic.specs.Command.{word_of}
use Rattle.rpkibasic.specs.Fault.{usage_text, line, status_of}
use Rattle.rpkibasic.specs.declared.fault.Fault.{Fault}
use Rattle.rpkibasic.specs.declared.fault.Fault.TheVariants.{Usage, Refused, RefusedUri, TooLong, OutOfMemory, Input}
use Rattle.rpkibasic.specs.declared.fault.Fault.TheVariants.{Output}
use Rattle.rpkibasic.specs.declared.command.Command.{Command}
use Rattle.rpkibasic.specs.declared.command.Command.TheVariants.{Again, Data, Key, Uri, Ext, Name}

-- ---- what is returned: a text, or a fault

abbrev pub Answer : Type 0
Answer = Result (List ℕ) Fault

-- signed data of the RPKI: the parameters of the algorithm are there, or they aren't
abbrev pub Signed : Type 0
Signed = SignedParts Bool

abbrev pub SpellsRpki : Signed → List ℕ → Type 0
SpellsRpki = SpellsSigned (SpellsAlgorithm sha256_with_rsa_encryption)

abbrev pub written_algorithm : Bool → List ℕ
written_algorithm present = algorithm_octets sha256_with_rsa_encryption true

-- the octets spell the value, and no other value
abbrev pub SpellsOnly : {V : Type 0} → (V → List ℕ → Type 0) → V → List ℕ → Type 0
SpellsOnly {V} G v octets = G v octets × ((w : V) → G w octets → w ≡ v)

-- the error of signed data of the RPKI
abbrev pub IsRpkiFault : List ℕ → DecodeError → Type 0
IsRpkiFault =
    (signed_sequence (SpellsAlgorithm sha256_with_rsa_encryption) (algorithm sha256_with_rsa_encryption).fault).fault

-- Why an input gives no text: it is in the grammar of none, and the reader of whole octets rejects it with the leftmost
-- error, which K says of the reader of a beginning; or T.
abbrev pub IsFaultOf : {V : Type 0} → (V → List ℕ → Type 0) → (List ℕ → DecodeError → Type 0) → Type 0 → List ℕ
    → Fault → Type 0
IsFaultOf G K T input (Refused e) = (e ≢ der.OutOfMemory) × SpellsNothing G input × IsWholeFault G K input e
IsFaultOf G K T input (RefusedUri e) = ⊥
IsFaultOf G K T input TooLong = T
IsFaultOf G K T input OutOfMemory = ⊥
IsFaultOf G K T input Input = ⊥
IsFaultOf G K T input Usage = ⊥
IsFaultOf G K T input Output = ⊥

-- The input is signed data, and the text is what is written of it.
abbrev pub IsAgain : List ℕ → List ℕ → Type 0
IsAgain input text = (x : Signed) × SpellsOnly SpellsRpki x input
    × (length (written_contents written_algorithm x) < 2 ^ 32) × (text ≡ written_signed written_algorithm x)

-- The input is signed data, and no length can announce the contents that would be written.
abbrev pub IsTooLong : List ℕ → Type 0
IsTooLong input = (x : Signed) × SpellsOnly SpellsRpki x input
    × (2 ^ 32 ≤ length (written_contents written_algorithm x))

-- what is written of signed data: its normal form, where a length announces it; else there is no text
abbrev pub IsWritten : Signed → List ℕ → Type 0
IsWritten x text = IsShortSigned written_algorithm x × (text ≡ written_signed written_algorithm x)

abbrev pub IsUnwritten : Signed → Fault → Type 0
IsUnwritten x fault =
    ((fault ≡ TooLong) × (2 ^ 32 ≤ length (written_contents written_algorithm x))) ⊎ (fault ≡ OutOfMemory)

-- The input is signed data, and the text is the signed slice.
abbrev pub IsSlice : List ℕ → List ℕ → Type 0
IsSlice input text = (x : Signed) × SpellsOnly SpellsRpki x input × (text ≡ x.signed)

-- The input is a public key, and the text is a line: its identifier, the SHA-1 digest of its bits, in hexadecimal
-- digits.
abbrev pub IsKeyLine : List ℕ → List ℕ → Type 0
IsKeyLine input text = (k : KeyParts) × SpellsOnly SpellsKey k input × (text ≡ hex_text (sha1 k.bits.octets) ++ 10 ∷ [])

-- The input is a text with which nothing is wrong as a URI, and these are its lines.
abbrev pub IsLines : List ℕ → List ℕ → Type 0
IsLines input text = (uri_refusal_of (without_last_line_feed input) ≡ None)
    × (text ≡ uri_lines (without_last_line_feed input))

-- Why a text has no lines: what is wrong with it first.
abbrev pub IsRefusedText : Option Error → Fault → Type 0
IsRefusedText wrong (RefusedUri e) = wrong ≡ Some e
IsRefusedText wrong (Refused e) = ⊥
IsRefusedText wrong TooLong = ⊥
IsRefusedText wrong OutOfMemory = ⊥
IsRefusedText wrong Input = ⊥
IsRefusedText wrong Usage = ⊥
IsRefusedText wrong Output = ⊥

-- extensions, in sequence
abbrev pub SpellsExtensions : List ExtensionParts → List ℕ → Type 0
SpellsExtensions = SpellsEach SpellsExtension

-- what is written of them, in order
abbrev pub written_extensions : List ExtensionParts → List ℕ
written_extensions xs = flat_map written_extension xs

-- The input is extensions, in sequence, and the text is what is written of each.
abbrev pub AreExtensions : List ℕ → List ℕ → Type 0
AreExtensions input text = (xs : List ExtensionParts) × SpellsOnly SpellsExtensions xs input
    × (text ≡ written_extensions xs)

-- After extensions are octets that no extension begins, and the reader of one rejects them so; and so the input isn't
-- extensions.
pub record StopsAt (input : List ℕ) (e : DecodeError) : Type 0 where
  pub front : List ℕ
  pub rest : List ℕ
  pub before : List ExtensionParts
  pub parts : input ≡ front ++ rest
  pub read : SpellsExtensions before front
  pub refused : Refuses SpellsExtension rest
  pub kind : (e ≢ der.OutOfMemory) × extension.fault rest e
  pub none : SpellsNothing SpellsExtensions input

-- why an input isn't extensions
abbrev pub IsExtensionFault : List ℕ → Fault → Type 0
IsExtensionFault input (Refused e) = StopsAt input e
IsExtensionFault input (RefusedUri e) = ⊥
IsExtensionFault input TooLong = ⊥
IsExtensionFault input OutOfMemory = ⊥
IsExtensionFault input Input = ⊥
IsExtensionFault input Usage = ⊥
IsExtensionFault input Output = ⊥

-- The input is a name, and the text is its lines.
abbrev pub IsInspected : List ℕ → List ℕ → Type 0
IsInspected input text = (n : List ℕ) × SpellsOnly SpellsNameOctets n input × AreNameLines n text

-- the answer that is due to the input, which is one for each command
abbrev pub IsDue : Command → List ℕ → Answer → Type 0
IsDue Again input (Ok text) = IsAgain input text
IsDue Again input (Err fault) = IsFaultOf SpellsRpki IsRpkiFault (IsTooLong input) input fault
IsDue Data input (Ok text) = IsSlice input text
IsDue Data input (Err fault) = IsFaultOf SpellsRpki IsRpkiFault ⊥ input fault
IsDue Key input (Ok text) = IsKeyLine input text
IsDue Key input (Err fault) = IsFaultOf SpellsKey key.fault ⊥ input fault
IsDue Uri input (Ok text) = IsLines input text
IsDue Uri input (Err fault) = IsRefusedText (uri_refusal_of (without_last_line_feed input)) fault
IsDue Ext input (Ok text) = AreExtensions input text
IsDue Ext input (Err fault) = IsExtensionFault input fault
IsDue Name input (Ok text) = IsInspected input text
IsDue Name input (Err fault) = IsFaultOf SpellsNameOctets IsNameFault ⊥ input fault

-- a fact of each fault but an allocation failure
abbrev pub UnlessMemory : Fault → Type 0 → Type 0
UnlessMemory (Refused e) P = P
UnlessMemory (RefusedUri e) P = P
UnlessMemory TooLong P = P
UnlessMemory OutOfMemory P = Unit {0}
UnlessMemory Input P = P
UnlessMemory Usage P = P
UnlessMemory Output P = P

-- nothing is wrong with the text, and these are its lines; or this is wrong with it first
abbrev pub HasLines : (List ℕ → Option Error) → (List ℕ → List ℕ) → List ℕ → List ℕ → Type 0
HasLines refusal lines text shown = (refusal text ≡ None) × (shown ≡ lines text)

abbrev pub HasNoLines : (List ℕ → Option Error) → List ℕ → Fault → Type 0
HasNoLines refusal text fault = UnlessMemory fault (IsRefusedText (refusal text) fault)

-- the answer that is due to the whole input, or an allocation failure
abbrev pub Answers : Command → List ℕ → Answer → Type 0
Answers command input (Ok text) = IsDue command input (Ok text)
Answers command input (Err fault) = UnlessMemory fault (IsDue command input (Err fault))

-- the two faults that are not the input's: an allocation failed, or the input was not read to its end
abbrev pub GaveUp : Answer → Type 0
GaveUp a = (a ≡ Err OutOfMemory) ⊎ (a ≡ Err Input)

-- the answer that is due to an input whose end the calls of the reader can find; or the program gave up
abbrev pub Replies : Command → List ℕ → Answer → Type 0
Replies command input a = (IsDue command input a × (length input ≤ most_octets most_calls)) ⊎ GaveUp a

-- a command with this word has its reply from all that the input has
abbrev pub GetReply : List (List ℕ) → Option (List ℕ) → (Answer → Type 0) → Type 0
GetReply words input seen = (command : Command) → words ≡ word_of command ∷ []
    → IfSome input (λ octets. (a : Answer) × Replies command octets a × seen a)

-- no command has these words
abbrev pub AreOtherWords : List (List ℕ) → Type 0
AreOtherWords words = (command : Command) → words ≡ word_of command ∷ [] → ⊥

-- without words, and with other words
abbrev pub usage_answer : List (List ℕ) → Answer
usage_answer [] = Ok usage_text
usage_answer (word ∷ words) = Err Usage

-- words of no command get the usage line
abbrev pub GetUsage : List (List ℕ) → (Answer → Type 0) → Type 0
GetUsage words seen = AreOtherWords words → seen (usage_answer words)

-- ---- what is seen of it

-- the line of the fault is there; or a write failed before its end
abbrev pub IsTold : Option (List ℕ) → Option (List ℕ) → Fault → Type 0
IsTold was is fault = Appends was is (line fault) ⊎ AppendsCut was is (line fault)

-- A text goes to the output, the faults are left alone and the status is 0; or the output failed, holds a beginning of
-- the text and not all of it, the line that says so goes to the faults and the status is 1. Of a fault its line goes to
-- the faults, and the output is left alone.
abbrev pub Shows : (old new was is : Option (List ℕ)) → Answer → ℕ → Type 0
Shows old new was is (Ok text) status =
    (Appends old new text × Appends was is [] × (status ≡ 0))
    ⊎ (AppendsCut old new text × IsTold was is Output × (status ≡ 1))
Shows old new was is (Err fault) status = Appends old new [] × IsTold was is fault × (status ≡ status_of fault)

-- the same of two writers, by what they hold
abbrev pub Seen : {W F : Type 0} → (W → Option (List ℕ)) → (old new : W) → (F → Option (List ℕ)) → (was is : F) → ℕ
    → Answer → Type 0
Seen output old new faults was is status a = Shows (output old) (output new) (faults was) (faults is) a status
