-- Why a name is not joined to a directory.
use Rattle.std.proofs.Common.{◌≡◌, ℕ, List, Option, Some, None, inl, inr, sym, ap, ◌∙◌}
use Rattle.std.specs.Option.{unwrap_or}
use Rattle.rpki_text.specs.declared.uri.error.Error.{Error}
use Rattle.rpki_text.specs.declared.uri.error.Error.TheVariants.{OutOfMemory}
use Rattle.rpki_text.specs.RsyncText.{parent_of, join_refusal}
use Rattle.rpki_examples.specs.Beside.{IsNotBeside}

pub not-joined : (other name directory : List ℕ) (e : Error) (why : Option Error) → parent_of other ≡ Some directory
    → join_refusal directory name ≡ why → e ≡ unwrap_or why OutOfMemory → IsNotBeside other name e
not-joined other name directory e None there is h = inl h
not-joined other name directory e (Some x) there is h = inr (directory, there, is ∙ ap Some (sym h))
