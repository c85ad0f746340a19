use Rattle.std.proofs.Common.{inl, inr, refl}
use Rattle.rpki_c.specs.Authority.{HasOwn, Own}
use Rattle.rpki_c.proofs.PathLaws.{end-path}
use Rattle.rpki_c.proofs.authority_end.end_below.Goals as goal

pub returns-in-Err-below : goal.returns-in-Err-below
returns-in-Err-below c =
    let (x, h) = c.in-Ok.ensures.ok in
    inr (x, h.spelled, inl (c.in-Err-below.ensures c.args.octets.now x h))

pub returns-in-Err-owned_under : goal.returns-in-Err-owned_under
returns-in-Err-owned_under c =
    let (x, h) = c.in-Ok.ensures.ok in
    let (says, below) = c.in-Ok-below.ensures c.args.octets.now x h in
    let none = c.in-Err-owned_under.ensures.err c.args.octets.now x h in
    inr (x, h.spelled, inr (c.in-Ok-below.known, says, below, inl none))

pub returns-in_default : goal.returns-in_default
returns-in_default c =
    let (x, h) = c.in-Ok.ensures.ok in
    let (says, below) = c.in-Ok-below.ensures c.args.octets.now x h in
    let own = c.in-Ok-owned_under in
    inr (
      x,
      h.spelled,
      inr (
        c.in-Ok-below.known,
        says,
        below,
        inr (
          record { addresses = own.own.addresses; numbers = own.own.numbers },
          record {
            addresses = own.ensures.addresses c.args.octets.now x h;
            numbers = own.ensures.numbers c.args.octets.now x h;
          },
          refl,
          inl c.in_default.ensures.none,
        ),
      ),
    )

pub returns-in_default-kept_numbers : goal.returns-in_default-kept_numbers
returns-in_default-kept_numbers c =
    let (x, h) = c.in-Ok.ensures.ok in
    let (says, below) = c.in-Ok-below.ensures c.args.octets.now x h in
    let own = c.in-Ok-owned_under in
    inr (
      x,
      h.spelled,
      inr (
        c.in-Ok-below.known,
        says,
        below,
        inr (
          record { addresses = own.own.addresses; numbers = own.own.numbers },
          record {
            addresses = own.ensures.addresses c.args.octets.now x h;
            numbers = own.ensures.numbers c.args.octets.now x h;
          },
          refl,
          inr c.in_default-kept_numbers.ensures.none,
        ),
      ),
    )

pub returns : goal.returns
returns c =
    let (x, h) = c.in-Ok.ensures.ok in
    let (says, below) = c.in-Ok-below.ensures c.args.octets.now x h in
    let found = c.in-Ok-owned_under in
    let own : Own = record { addresses = found.own.addresses; numbers = found.own.numbers } in
    let has : HasOwn c.args.by.now x c.in-Ok-below.known own =
    record {
      addresses = found.ensures.addresses c.args.octets.now x h;
      numbers = found.ensures.numbers c.args.octets.now x h;
    } in
    record {
      x = x;
      spelled = h.spelled;
      known = c.in-Ok-below.known;
      says = says;
      below = below;
      own = own;
      has = has;
      ip_blocks = c.in-Some.ensures.some;
      as_blocks = c.in-Some-kept_numbers.ensures.some;
      path = end-path c.args.profile c.args.by.now x c.in-Ok-below.known own says below has;
    }
