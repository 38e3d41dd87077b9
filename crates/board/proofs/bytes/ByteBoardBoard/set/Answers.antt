use Rattle.std.proofs.Common.{◌≡◌, ◌+◌, ◌-◌, ◌*◌, ◌/◌, ◌%◌, ◌<◌, ◌∷◌, [], length, set, refl, ap, ◌∙◌, rules, arith}
use borrow.Rule.Slice.PartMut.{put_mid}
use Rattle.board.specs.Bytes.{byte_counts}
use Rattle.board.proofs.EvenLimits.{even-holds}
use Rattle.board.proofs.OnBytes.{pair-within, two-written, spelled, counts-after, limits-after, past_after}
use Rattle.board.proofs.bytes.ByteBoardBoard.set.Goals as goal

pub slice_bounds-copy_from_slice-end : goal.slice_bounds-copy_from_slice-end
slice_bounds-copy_from_slice-end c = omega (arith, pair-within c.args.self.now.bytes.now c.args.p (omega arith))

pub returns : goal.returns
returns c =
    let bytes = c.args.self.now.bytes.now in
    let p = c.args.p in
    let n = c.in_ok-n.n in
    let same : (c.args.n < 65536) × (n ≡ c.args.n) = search rules in
    let there : p < length (byte_counts bytes) = omega arith in
    let low = n % 256 in
    let high = n / 256 % 256 in
    let pair = c.copy_from_slice.new.self in
    let two : pair ≡ low ∷ high ∷ [] = search rules in
    let written : put_mid (2 * p) (2 * p + 2 - 2 * p) bytes pair ≡ set (set bytes (2 * p) low) (2 * p + 1) high =
    rw two (two-written (2 * p) (2 * p + 2 - 2 * p) bytes low high (omega arith) (omega (arith, pair-within bytes p there))) in
    record {
      counts = (
        even-holds (byte_counts bytes) 65535 p c.args.n there (omega arith),
        ap byte_counts written ∙ counts-after bytes p there low high ∙ ap (set (byte_counts bytes) p) (spelled n (omega arith) ∙ same.1),
      );
      limits = rw written (limits-after bytes p there low high);
      kept = rw (written, past_after bytes p there low high) refl;
    }
