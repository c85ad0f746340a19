use Rattle.std.proofs.Common.{◌≡◌, ◌≤◌, ◌<◌, ◌^◌, ◌++◌, length, drop, arith, ap, sym, refl, inl, inr, ◌∙◌}
use Rattle.base64.specs.GeneralPurpose.{encode_of, encoded_size_of}
use Rattle.rpki_c.proofs.TextLaws.{encoded-length, encoded-small}
use Rattle.rpki_c.proofs.base_64.store_encoded.Goals as goal

pub returns-in-Ok : goal.returns-in-Ok
returns-in-Ok c =
    let engine = c.args.engine.now in
    let octets = c.args.octets.now in
    let size = encoded-length engine.encode_table engine.padding.value engine.config.encode_padding octets in
    let small : length octets < 2 ^ 63 = omega arith in
    let told = c.in-Some.ensures.fits (encoded-small (length octets) _ small) in
    let len : c.in-Some.len ≡ encoded_size_of engine (length octets) = cc in
    let room = λ (h : length c.args.out.now < encoded_size_of engine (length octets)).
    let e = c.in-Ok.ensures.too_small h in let no : ⊥ = cc in no in
    inl (
      refl,
      record {
        room = omega (arith, size, room);
        buffer = c.in-Ok.ensures.written ∙ ap (λ n. encode_of engine octets ++ drop n c.args.out.now) (sym size);
        size = len ∙ sym size;
      },
    )

pub returns-in-Err-OutputSliceTooSmall : goal.returns-in-Err-OutputSliceTooSmall
returns-in-Err-OutputSliceTooSmall c =
    let engine = c.args.engine.now in
    let octets = c.args.octets.now in
    let size = encoded-length engine.encode_table engine.padding.value engine.config.encode_padding octets in
    let small : length octets < 2 ^ 63 = omega arith in
    let told = c.in-Some.ensures.fits (encoded-small (length octets) _ small) in
    let len : c.in-Some.len ≡ encoded_size_of engine (length octets) = cc in
    let short = λ (h : encoded_size_of engine (length octets) ≤ length c.args.out.now).
    let e = c.in-Err-OutputSliceTooSmall.ensures.fits h in let no : ⊥ = cc in no in
    inr (
      refl,
      record {
        short = omega (arith, size, short);
        buffer = c.in-Err-OutputSliceTooSmall.ensures.same;
        size = len ∙ sym size;
      },
    )
