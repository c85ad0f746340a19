use Rattle.std.specs.Prelude.{ℕ, List, slice_range}
use Rattle.rpki_der.specs.declared.indexed.IndexedCursor.{IndexedCursor}

-- the rest of captured values
unfoldable pub indexed_left : IndexedCursor → List ℕ
indexed_left c = slice_range c.source.now c.start c.end
