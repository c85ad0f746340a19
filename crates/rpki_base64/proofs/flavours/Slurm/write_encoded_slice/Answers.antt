use Rattle.std.proofs.Common.{ℕ, List, ◌++◌, ap, ◌∙◌, subst, rules, arith, append_assoc}
use Rattle.std.proofs.lemmas.List.{nil_from_length}
use Rattle.std.specs.Io.KnownBytes.{Appends}
use Rattle.std.specs.Slice.Iter.{chunks_rest}
use Rattle.base64.specs.Engines.{url_safe_no_pad_indifferent}
use Rattle.base64.specs.GeneralPurpose.{encode_of}
use Rattle.base64.proofs.EngineFacts.{encoded_prefix}
use Rattle.rpki_base64.proofs.Base64Laws.{chunk-first, appends-append, appends-taken, all-encoded}
use Rattle.rpki_base64.proofs.flavours.Slurm.write_encoded_slice.Goals as goal

pub loop-chunk-preserved : goal.loop-chunk-preserved
loop-chunk-preserved g c =
    let e = url_safe_no_pad_indifferent in
    let chunk = c.in-Some.chunk.now in
    let steps = c.in-Some.ensures.steps in
    let text = encoded_prefix (encode_of e chunk) c.loop-chunk.text c.encode_slice.new.output _ c.in-Ok.len
    c.encode_slice.result _
    c.encode_slice.auto.output c.encode_slice.ensures.fits c.encode_slice.ensures.too_small c.in-Ok.is
    c.in-Ok.ensures.written in
    let size = c.loop-chunk.invariant.2 in
    let so_far = c.loop-chunk.invariant.3 in (
      search rules,
      tt,
      steps.0 ∙ size,
      (
        so_far.0 ++ encode_of e chunk,
        appends-append _ _ _ so_far.0 (encode_of e chunk) so_far.1
            (appends-taken _ _ c.encode_slice.new.output (encode_of e chunk) c.in-Ok.len _ text (omega arith)
            c.in_ok-write_whole.ensures),
        append_assoc so_far.0 _ _ ∙ ap (λ (t : List ℕ). so_far.0 ++ t)
            (chunk-first e _ chunk (chunks_rest c.next.new.self) steps.1.0 (rw size at steps.1.1)) ∙ so_far.2,
      ),
    )

pub returns : goal.returns
returns g c =
    let so_far = c.loop-chunk.invariant.3 in
    let none = nil_from_length _ c.in-None.ensures.steps.1.0 in
    let all = all-encoded url_safe_no_pad_indifferent so_far.0 c.args.bytes.now _ none so_far.2 in
    subst (λ (t : List ℕ). Appends (g.W.Write.contents c.args.target.now) (g.W.Write.contents c.loop-chunk.target) t)
    all so_far.1
