-- Blocks that are written are read as themselves.
use Rattle.std.proofs.Common.{◌≡◌, ◌≢◌, ◌≤◌, ◌<◌, ◌^◌, inl, inr, ℕ, Bool, true, false, cond, eqb, Option, Some, None}
use Rattle.std.proofs.Common.{List, [], ◌∷◌, ◌++◌, refl, sym, arith}
use Rattle.std.proofs.lemmas.Bool.{eqb-true, eqb-false}
use Rattle.rpki_der.specs.TagName.{bit_string, integer, sequence}
use Rattle.rpki_der.specs.Integer.{IsUnsignedBelow}
use Rattle.rpki_der.specs.Each.{SpellsEach}
use Rattle.rpki_der.specs.ValueListLaws.{sequence_legal}
use Rattle.rpki_der.proofs.EncodeLaws.{leaf-legal}
use Rattle.rpki_resources.specs.declared.address.Address.{Address}
use Rattle.rpki_resources.specs.declared.block.Block.{Block}
use Rattle.rpki_resources.specs.declared.kind.ResourceKind.{ResourceKind}
use Rattle.rpki_resources.specs.declared.kind.ResourceKind.TheVariants.{Addresses, AsNumbers}
use Rattle.rpki_resources.specs.Address.{width, IsAddress, IsAddressOf, address, range_ends, block}
use Rattle.rpki_resources.specs.Address.{prefix_block}
use Rattle.rpki_resources.specs.AsNumber.{as_number, as_ends, as_block}
use Rattle.rpki_resources.specs.Blocks.{AreCanonical}
use Rattle.rpki_resources.specs.Listed.{block_of, AreBlocks}
use Rattle.rpki_resources.specs.Encoded.{address_contents, address_octets, as_contents, as_number_octets, shared_bits}
use Rattle.rpki_resources.specs.Encoded.{without_zeros, without_ones, prefix_or_range, pair_octets, block_octets}
use Rattle.rpki_resources.specs.Encoded.{blocks_octets, IsBlockOf, AreBlocksOf}
use Rattle.rpki_resources.proofs.BlocksLaws.{same-block}
use Rattle.rpki_resources.proofs.AddressLaws.{width-most}
use Rattle.rpki_resources.proofs.AddressWritingLaws.{address-spelled, address-few}
use Rattle.rpki_resources.proofs.NumberOctetsLaws.{as-unsigned}
use Rattle.rpki_resources.proofs.StrippedLaws.{are-shared, prefix-shared, stripped-low, stripped-high}
use Rattle.rpki_resources.proofs.BlockWritingLaws.{as-few, bits-legal, integer-legal, as-pair-short, bits-pair-short}

-- ---- addresses

address-back : (w : ℕ) (x : Address) → w ≤ 128 → IsAddressOf w x → (address w).spells x (address_octets x)
address-back w x most h =
    leaf-legal bit_string false (IsAddress w) x (address_contents x) bits-legal
    (omega (arith, address-few x (omega (arith, most, h.0)))) (address-spelled w x h)

prefix-back : (w : ℕ) (b : Block) → w ≤ 128 → b.low ≤ b.high → b.high < 2 ^ w → (o : Option Address)
    → shared_bits w b.low b.high ≡ o
    → (block w).spells b (prefix_or_range w b o)
prefix-back w b most some lt (Some x) is =
    let h = are-shared w b.low b.high x lt is in
    inr (record {
      value = x;
      spelled = address-back w x most h.legal;
      stands = same-block b (prefix_block w x) (sym h.low_is) (sym h.high_is);
    })
prefix-back w b most some lt None is =
    let x = without_zeros w b.low in
    let y = without_ones w b.high in
    let h = stripped-low w b.low (omega (arith, some, lt)) in
    let k = stripped-high w b.high lt in
    let sizes = bits-pair-short bit_string bit_string x y (omega (arith, h.legal.0, most))
    (omega (arith, k.legal.0, most)) in
    inl (leaf-legal sequence true (range_ends w).spells b (address_octets x ++ address_octets y) sequence_legal sizes.1
    (record {
      value = (x, y);
      spelled = record {
        first = address_octets x;
        second = address_octets y;
        parts = refl;
        one = address-back w x most h.legal;
        two = address-back w y most k.legal;
      };
      stands = record {
        low = sym h.end;
        high = sym k.end;
        no_zeros = h.stripped;
        no_ones = k.stripped;
        some = some;
        no_prefix = λ p. prefix-shared w b.low b.high lt p is;
      };
    }))

-- ---- AS numbers

number-back : (n : ℕ) → n < 2 ^ 32 → as_number.spells n (as_number_octets n)
number-back n small =
    leaf-legal integer false (IsUnsignedBelow (2 ^ 32)) n (as_contents n) integer-legal (omega (arith, as-few n))
    (record { below = small; contents = as-unsigned n small })

numbers-back : (b : Block) → b.low ≤ b.high → b.high < 2 ^ 32 → (same : Bool) → eqb b.low b.high ≡ same
    → as_block.spells b (cond same (as_number_octets b.low)
    (pair_octets (as_number_octets b.low) (as_number_octets b.high)))
numbers-back b some lt true e =
    inr (record {
      value = b.low;
      spelled = number-back b.low (omega (arith, some, lt));
      stands =
          (refl, sym (eqb-true b.low b.high e));
    })
numbers-back b some lt false e =
    let one = as_number_octets b.low in
    let two = as_number_octets b.high in
    let other = eqb-false b.low b.high e in
    inl (leaf-legal sequence true as_ends.spells b (one ++ two) sequence_legal
    (as-pair-short integer integer b.low b.high).1 (record {
      value = (b.low, b.high);
      spelled = record {
        first = one;
        second = two;
        parts = refl;
        one = number-back b.low (omega (arith, some, lt));
        two = number-back b.high lt;
      };
      stands = record { low = refl; high = refl; ascends = omega (arith, some, other) };
    }))

-- ---- a block, and blocks in sequence

pub block-back : (kind : ResourceKind) (b : Block) → IsBlockOf kind b → (block_of kind).spells b (block_octets kind b)
block-back (Addresses family) b h = prefix-back (width family) b (width-most family) h.0 h.1
    (shared_bits (width family) b.low b.high) refl
block-back AsNumbers b h = numbers-back b h.0 h.1 (eqb b.low b.high) refl

each-back : (kind : ResourceKind) (bs : List Block) → AreBlocksOf kind bs
    → SpellsEach (block_of kind).spells bs (blocks_octets kind bs)
each-back kind [] h = refl
each-back kind (b ∷ bs) h = (
  blocks_octets kind bs,
  record { front = block_octets kind b; parts = refl; spelled = block-back kind b h.0 },
  each-back kind bs h.1,
)

pub blocks-back : (kind : ResourceKind) (bs : List Block) → AreBlocksOf kind bs → AreCanonical bs → bs ≢ []
    → AreBlocks kind bs (blocks_octets kind bs)
blocks-back kind bs fit canonical some = record { each = each-back kind bs fit; canonical = canonical; some = some }
