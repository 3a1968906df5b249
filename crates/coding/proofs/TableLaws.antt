-- The rules of the two tables, each by a test that antt computes at every entry.
use Rattle.std.proofs.Common.{◌≡◌, ℕ, zero, suc, ◌<◌, ◌≤◌, T, eqb, ltb, length, get_or, sym, refl, ap, ◌∙◌, arith, eqb→eq, ltb→lt}
use Rattle.coding.specs.Field.{product, power}
use Rattle.coding.specs.Tables.{exp_table, log_table}
use Rattle.coding.proofs.Cases.{all_below, each_below}

abbrev pub exp : ℕ → ℕ
exp i = get_or exp_table i 0

abbrev pub log : ℕ → ℕ
log a = get_or log_table a 0

pub exp_length : length exp_table ≡ 255
unfolding exp_table
exp_length = refl

pub log_length : length log_table ≡ 256
unfolding log_table
log_length = refl

exp_test : T (all_below 254 (λ i. eqb (exp (suc i)) (product (exp i) 2)))
unfolding exp_table product
exp_test = tt

log_lt_test : T (all_below 256 (λ a. ltb (log a) 255))
unfolding log_table
log_lt_test = tt

log_test : T (all_below 255 (λ a. eqb (exp (log (suc a))) (suc a)))
unfolding exp_table log_table
log_test = tt

log_exp_test : T (all_below 255 (λ i. eqb (log (exp i)) i))
unfolding exp_table log_table
log_exp_test = tt

exp_next : (i : ℕ) → i < 254 → exp (suc i) ≡ product (exp i) 2
exp_next i h =
    eqb→eq (exp (suc i)) (product (exp i) 2) (each_below 254 (λ i. eqb (exp (suc i)) (product (exp i) 2)) exp_test i h)

pub exp_rule : (i : ℕ) → i < 255 → exp i ≡ power 2 i
unfolding power exp_table
exp_rule zero h = refl
exp_rule (suc i) h = exp_next i (omega arith) ∙ ap (λ x. product x 2) (exp_rule i (omega arith))

pub log_lt : (a : ℕ) → a < 256 → log a < 255
log_lt a h = ltb→lt (log a) 255 (each_below 256 (λ a. ltb (log a) 255) log_lt_test a h)

pub exp_log : (a : ℕ) → a < 256 → (a ≡ 0 → ⊥) → exp (log a) ≡ a
exp_log zero h z = absurd (z refl)
exp_log (suc a) h z =
    eqb→eq (exp (log (suc a))) (suc a) (each_below 255 (λ a. eqb (exp (log (suc a))) (suc a)) log_test a (omega arith))

pub log_exp : (i : ℕ) → i < 255 → log (exp i) ≡ i
log_exp i h = eqb→eq (log (exp i)) i (each_below 255 (λ i. eqb (log (exp i)) i) log_exp_test i h)

-- every element but 0 is a power of 2, and its logarithm says which
pub log_rule : (a : ℕ) → a < 256 → (a ≡ 0 → ⊥) → power 2 (log a) ≡ a
log_rule a h z = sym (exp_rule (log a) (log_lt a h)) ∙ exp_log a h z

-- Document 01's rule of the two tables, over all entries.
pub record TableRule : Type 0 where
  pub lengths : (length exp_table ≡ 255) × (length log_table ≡ 256)
  -- each entry is twice the last modulo hex 11D
  pub first : exp 0 ≡ 1
  pub twice : (i : ℕ) → i < 254 → exp (suc i) ≡ product (exp i) 2
  -- and the logarithm inverts it; the entry for 0 is 0
  pub inverts : (i : ℕ) → i < 255 → log (exp i) ≡ i
  pub inverted : (a : ℕ) → 1 ≤ a → a ≤ 255 → exp (log a) ≡ a
  pub none : log 0 ≡ 0

pub table_rule : TableRule
unfolding exp_table log_table
table_rule =
    record {
      lengths = (exp_length, log_length);
      first = refl;
      twice = exp_next;
      inverts = log_exp;
      inverted = λ a lo up. exp_log a (omega arith) (λ z. omega arith);
      none = refl;
    }
