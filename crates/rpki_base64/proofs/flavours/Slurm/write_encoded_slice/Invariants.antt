use Rattle.std.proofs.Common.{◌≡◌, ℕ, List, ◌++◌}
use Rattle.std.specs.Io.KnownBytes.{Appends}
use Rattle.std.specs.Slice.Iter.{chunks_rest, chunks_size}
use Rattle.base64.specs.Engines.{url_safe_no_pad_indifferent}
use Rattle.base64.specs.GeneralPurpose.{encode_of}
use Rattle.rpki_base64.proofs.flavours.Slurm.write_encoded_slice.Given as goal

abbrev pub invariant-loop-chunk : goal.invariant-loop-chunk
invariant-loop-chunk g l =
    (goal.iterator-loop-chunk g).can_next l.chunk-iterator
    × (goal.iterator-loop-chunk g).is_finite l.chunk-iterator
    × (chunks_size l.chunk-iterator ≡ 768)
    × ((done : List ℕ) × Appends (g.W.Write.contents l.initial.target) (g.W.Write.contents l.target) done
    × (done ++ encode_of url_safe_no_pad_indifferent (chunks_rest l.chunk-iterator) ≡ encode_of
    url_safe_no_pad_indifferent l.bytes))
