use Rattle.std.proofs.Common.{inl, inr, refl, ◌∙◌, subst, ℕ, List}
use Rattle.rpki_c.specs.Authority.{HasNextKeys, HasNoNextKeys}
use Rattle.rpki_c.proofs.authority_making.under.Goals as goal

pub returns-in-Err-below : goal.returns-in-Err-below
returns-in-Err-below c =
    let (x, h) = c.in-Ok.ensures.ok in
    inr (x, h.spelled, inl (c.in-Err-below.ensures c.args.octets.now x h))

pub returns-in-Err-next_keys : goal.returns-in-Err-next_keys
returns-in-Err-next_keys c =
    let (x, h) = c.in-Ok.ensures.ok in
    let (says, below) = c.in-Ok-below.ensures c.args.octets.now x h in
    let key = c.from.ensures ∙ c.key_of.ensures c.args.octets.now x h in
    let wrong = subst (λ (k : List ℕ). HasNoNextKeys c.args.by.now k c.in-Err-next_keys.status) key
    c.in-Err-next_keys.ensures in
    inr (x, h.spelled, inr (c.in-Ok-below.known, says, below, inl wrong))

pub returns-in-Err-owned_under : goal.returns-in-Err-owned_under
returns-in-Err-owned_under c =
    let (x, h) = c.in-Ok.ensures.ok in
    let (says, below) = c.in-Ok-below.ensures c.args.octets.now x h in
    let none = c.in-Err-owned_under.ensures.err c.args.octets.now x h in
    inr (x, h.spelled, inr (c.in-Ok-below.known, says, below, inr (inl none)))

pub returns-in_default : goal.returns-in_default
returns-in_default c =
    let (x, h) = c.in-Ok.ensures.ok in
    let (says, below) = c.in-Ok-below.ensures c.args.octets.now x h in
    let own = c.in-Ok-owned_under in
    inr (
      x,
      h.spelled,
      inr (
        c.in-Ok-below.known,
        says,
        below,
        inr (inr (
          record { addresses = own.own.addresses; numbers = own.own.numbers },
          record {
            addresses = own.ensures.addresses c.args.octets.now x h;
            numbers = own.ensures.numbers c.args.octets.now x h;
          },
          refl,
          inl c.in_default.ensures.none,
        )),
      ),
    )

pub returns-in_default-kept_numbers : goal.returns-in_default-kept_numbers
returns-in_default-kept_numbers c =
    let (x, h) = c.in-Ok.ensures.ok in
    let (says, below) = c.in-Ok-below.ensures c.args.octets.now x h in
    let own = c.in-Ok-owned_under in
    inr (
      x,
      h.spelled,
      inr (
        c.in-Ok-below.known,
        says,
        below,
        inr (inr (
          record { addresses = own.own.addresses; numbers = own.own.numbers },
          record {
            addresses = own.ensures.addresses c.args.octets.now x h;
            numbers = own.ensures.numbers c.args.octets.now x h;
          },
          refl,
          inr c.in_default-kept_numbers.ensures.none,
        )),
      ),
    )

pub returns : goal.returns
returns c =
    let (x, h) = c.in-Ok.ensures.ok in
    let (says, below) = c.in-Ok-below.ensures c.args.octets.now x h in
    let key = c.from.ensures ∙ c.key_of.ensures c.args.octets.now x h in
    let own = c.in-Ok-owned_under in
    record {
      x = x;
      spelled = h.spelled;
      known = c.in-Ok-below.known;
      says = says;
      below = below;
      next = subst (λ (k : List ℕ). HasNextKeys c.args.by.now k c.in-Ok-next_keys.keys) key
          c.in-Ok-next_keys.ensures;
      own = record { addresses = own.own.addresses; numbers = own.own.numbers };
      has = record {
        addresses = own.ensures.addresses c.args.octets.now x h;
        numbers = own.ensures.numbers c.args.octets.now x h;
      };
      certificate = c.of.ensures;
      ip_blocks = c.in-Some.ensures.some;
      as_blocks = c.in-Some-kept_numbers.ensures.some;
      moment = refl;
      no_digest = refl;
      depth = refl;
      unlisted = refl;
      bare = refl;
    }
