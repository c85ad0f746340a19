-- The words.
use Rattle.std.specs.Prelude.{ℕ, List, codes}
use Rattle.rpkibasic.specs.declared.command.Command.{Command}
use Rattle.rpkibasic.specs.declared.command.Command.TheVariants.{Again, Data, Key, Uri, Ext, Name}

abbrev pub word_of : Command → List ℕ
word_of Again = codes "again"
word_of Data = codes "data"
word_of Key = codes "key"
word_of Uri = codes "uri"
word_of Ext = codes "ext"
word_of Name = codes "name"
