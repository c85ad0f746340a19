-- No definition of what is wrong with a text names an allocation failure.
use Rattle.std.proofs.Common.{◌≡◌, ◌≢◌, ℕ, Bool, true, false, cond, List, [], ◌∷◌, drop, Option, Some, None}
use Rattle.std.specs.Option.{option_or}
use Rattle.rpki_text.specs.declared.uri.error.Error.{Error}
use Rattle.rpki_text.specs.declared.uri.error.Error.TheVariants.{InvalidCharacters, BadUri, LongUri, BadScheme}
use Rattle.rpki_text.specs.declared.uri.error.Error.TheVariants.{DotSegments, EmptySegments, LongSegments, OutOfMemory}
use Rattle.rpki_text.specs.Segments.{segments}
use Rattle.rpki_text.specs.RsyncText.{piece_refusal, names_refusal, path_refusal, rsync_refusal}
use Rattle.rpki_text.specs.HttpsText.{https_refusal}

-- an error that isn't one, or another than an allocation failure
abbrev pub NoMemory : Option Error → Type 0
NoMemory o = o ≡ Some OutOfMemory → ⊥

either : (b : Bool) (x y : Option Error) → NoMemory x → NoMemory y → NoMemory (cond b x y)
either true x y h k = h
either false x y h k = k

first : (x y : Option Error) → NoMemory x → NoMemory y → NoMemory (option_or x y)
first None y h k = k
first (Some e) y h k = h

none : NoMemory None
none h = cc

characters : NoMemory (Some InvalidCharacters)
characters h = cc

bad : NoMemory (Some BadUri)
bad h = cc

long : NoMemory (Some LongUri)
long h = cc

scheme : NoMemory (Some BadScheme)
scheme h = cc

dots : NoMemory (Some DotSegments)
dots h = cc

empty : NoMemory (Some EmptySegments)
empty h = cc

wide : NoMemory (Some LongSegments)
wide h = cc

of-piece : (piece : List ℕ) → NoMemory (piece_refusal piece)
of-piece piece = either _ _ _ empty (either _ _ _ dots (either _ _ _ wide none))

of-names : (names : List (List ℕ)) → NoMemory (names_refusal names)
of-names [] = none
of-names (name ∷ more) = first _ _ (of-piece name) (of-names more)

of-path : (path : List ℕ) → NoMemory (path_refusal path)
unfolding path_refusal
of-path path = either _ _ _ long (of-names (segments path))

of-rsync : (t : List ℕ) → NoMemory (rsync_refusal t)
unfolding rsync_refusal
of-rsync t = either _ _ _ characters (either _ _ _ scheme (first _ _ (of-path (drop 8 t)) (either _ _ _ none bad)))

of-https : (t : List ℕ) → NoMemory (https_refusal t)
unfolding https_refusal
of-https t = either _ _ _ characters (either _ _ _ scheme (either _ _ _ bad none))

-- so the error of a text, or of a path, is another
pub rsync-memory : (t : List ℕ) (e : Error) → rsync_refusal t ≡ Some e → e ≢ OutOfMemory
rsync-memory t e h k = of-rsync t (rw (← k) h)

pub path-memory : (path : List ℕ) (e : Error) → path_refusal path ≡ Some e → e ≢ OutOfMemory
path-memory path e h k = of-path path (rw (← k) h)

pub https-memory : (t : List ℕ) (e : Error) → https_refusal t ≡ Some e → e ≢ OutOfMemory
https-memory t e h k = of-https t (rw (← k) h)
