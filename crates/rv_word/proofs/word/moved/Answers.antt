-- A mask of so many ones takes so many low bits, and what is moved is not cut.
use Rattle.std.proofs.Common.{◌≡◌, ◌+◌, ◌*◌, ◌-◌, ◌/◌, ◌%◌, ◌^◌, ◌<◌, ◌≤◌, ℕ, bit_and, ◌∙◌, ap, arith}
use Rattle.std.proofs.lemmas.Nat.{one_shl, and_mask, shl_whole, mod_below, pow_pos}
use Rattle.std.proofs.Math.Nat.{mul_comm}
use Rattle.rv_word.specs.Word.{moved}
use Rattle.rv_word.proofs.word.moved.Goals as goal

masked : (from width to n : ℕ) → width < 64 → width + to ≤ 64 → bit_and (n / 2 ^ from) (1 * 2 ^ width % 2 ^ 64 - 1) * 2 ^ to % 2 ^ 64 ≡ moved from width to n
masked from width to n less whole =
    ap (λ m. bit_and (n / 2 ^ from) (m - 1) * 2 ^ to % 2 ^ 64) (one_shl width 64 less)
    ∙ (ap (λ m. m * 2 ^ to % 2 ^ 64) (and_mask (n / 2 ^ from) width)
    ∙ (shl_whole (n / 2 ^ from % 2 ^ width) width to 64 (mod_below (n / 2 ^ from) (2 ^ width) (pow_pos width)) whole
    ∙ mul_comm (n / 2 ^ from % 2 ^ width) (2 ^ to)))

pub returns : goal.returns
returns c = masked c.args.from c.args.width c.args.to c.args.number (omega arith) (omega arith)
