use Rattle.std.proofs.Common.{inl, inr, refl, ◌∙◌, ap, set, replicate}
use Rattle.rpki_c.proofs.BelowLaws.{root-told}
use Rattle.rpki_c.specs.Issued.{key_octets}
use Rattle.rpki_c.proofs.authority_anchor.root.Goals as goal

pub returns-in-Err-profiled : goal.returns-in-Err-profiled
returns-in-Err-profiled c =
    let (x, h) = c.in-Ok.ensures.ok in
    inr (x, h.spelled, inl (c.in-Err-profiled.ensures.err c.args.octets.now x h))

pub returns-then-told-ne0 : goal.returns-then-told-ne0
returns-then-told-ne0 c =
    let (x, h) = c.in-Ok.ensures.ok in
    let (says, has) = c.in-Ok-profiled.ensures.ok c.args.octets.now x h in
    let told = c.root_told-told.ensures c.args.octets.now x h in
    inr (x, h.spelled, inr (c.in-Ok-profiled.known, says, has, inl (c.if-told-ne0.true, told)))

pub returns-in-Err-owned_by : goal.returns-in-Err-owned_by
returns-in-Err-owned_by c =
    let (x, h) = c.in-Ok.ensures.ok in
    let (says, has) = c.in-Ok-profiled.ensures.ok c.args.octets.now x h in
    let told = c.root_told-told.ensures c.args.octets.now x h in
    let none = inl (c.in-Err-owned_by.ensures.err c.args.octets.now x h) in
    inr (
      x,
      h.spelled,
      inr (c.in-Ok-profiled.known, says, has, inr (rw c.if-told-ne0.false at told, none)),
    )

pub returns-in_default : goal.returns-in_default
returns-in_default c =
    let (x, h) = c.in-Ok.ensures.ok in
    let (says, has) = c.in-Ok-profiled.ensures.ok c.args.octets.now x h in
    let told = c.root_told-told.ensures c.args.octets.now x h in
    let own = c.in-Ok-owned_by in
    inr (
      x,
      h.spelled,
      inr (
        c.in-Ok-profiled.known,
        says,
        has,
        inr (
          rw c.if-told-ne0.false at told,
          inr (
            record { addresses = own.own.addresses; numbers = own.own.numbers },
            record {
              addresses = own.ensures.addresses c.args.octets.now x h;
              numbers = own.ensures.numbers c.args.octets.now x h;
            },
            refl,
            inl c.in_default.ensures.none,
          ),
        ),
      ),
    )

pub returns-in_default-kept_numbers : goal.returns-in_default-kept_numbers
returns-in_default-kept_numbers c =
    let (x, h) = c.in-Ok.ensures.ok in
    let (says, has) = c.in-Ok-profiled.ensures.ok c.args.octets.now x h in
    let told = c.root_told-told.ensures c.args.octets.now x h in
    let own = c.in-Ok-owned_by in
    inr (
      x,
      h.spelled,
      inr (
        c.in-Ok-profiled.known,
        says,
        has,
        inr (
          rw c.if-told-ne0.false at told,
          inr (
            record { addresses = own.own.addresses; numbers = own.own.numbers },
            record {
              addresses = own.ensures.addresses c.args.octets.now x h;
              numbers = own.ensures.numbers c.args.octets.now x h;
            },
            refl,
            inr c.in_default-kept_numbers.ensures.none,
          ),
        ),
      ),
    )

pub returns : goal.returns
returns c =
    let (x, h) = c.in-Ok.ensures.ok in
    let (says, has) = c.in-Ok-profiled.ensures.ok c.args.octets.now x h in
    let told = c.root_told-told.ensures c.args.octets.now x h in
    let root = root-told x c.in-Ok-profiled.known (key_octets x c.args.octets.now h.spelled) c.args.key.now
    c.args.moment.now says has (rw c.if-told-ne0.false at told) in
    let own = c.in-Ok-owned_by in
    record {
      x = x;
      spelled = h.spelled;
      known = c.in-Ok-profiled.known;
      says = says;
      profiled = has;
      locator = root.0;
      at = root.1.0;
      time = root.1.1;
      signed = root.1.2;
      own = record { addresses = own.own.addresses; numbers = own.own.numbers };
      has = record {
        addresses = own.ensures.addresses c.args.octets.now x h;
        numbers = own.ensures.numbers c.args.octets.now x h;
      };
      certificate = c.of.ensures;
      ip_blocks = c.in-Some.ensures.some;
      as_blocks = c.in-Some-kept_numbers.ensures.some;
      moment = refl;
      no_digest = refl;
      depth = refl;
      keys = c.with_key.ensures
          ∙ ap (set (replicate 33 (replicate 20 0)) 0)
          (c.from.ensures ∙ c.key_of.ensures c.args.octets.now x h);
      unlisted = refl;
      bare = refl;
    }
