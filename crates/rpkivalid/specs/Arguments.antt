-- Why there are no words of a run.
use Rattle.std.specs.Prelude.{ℕ, List, codes}
use Rattle.std.specs.declared.io.ErrorKind.{ErrorKind}
use Rattle.std.specs.declared.io.ErrorKind.TheVariants.{InvalidData}
use Rattle.rpkivalid.specs.declared.arguments.Wordless.{Wordless}
use Rattle.rpkivalid.specs.declared.arguments.Wordless.TheVariants.{Encoding, OutOfMemory}
use Rattle.rpkivalid.specs.Words.{memory_text}

-- what the host's error of a kind is, where the arguments are asked for
abbrev pub wordless_of : ErrorKind → Wordless
wordless_of InvalidData = Encoding
wordless_of kind = OutOfMemory

-- what is said of it
abbrev pub wordless_text : Wordless → List ℕ
wordless_text Encoding = codes "rpkivalid: an argument is not UTF-8\n"
wordless_text OutOfMemory = memory_text
