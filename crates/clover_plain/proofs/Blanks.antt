-- The numbers in banks: at first all are 0, and one bank's new number is one new number of all.
use Rattle.std.proofs.Common.{◌≡◌, ◌≢◌, ◌∙◌, ℕ, zero, suc, ◌/◌, ◌%◌, ◌<◌, List, [], length, length-set, replicate, set, get_or, get_or-set_same, get_or-set_other, refl, sym, ap, subst, ⊎_elim, arith}
use Rattle.std.proofs.lemmas.Bool.{cases_eq}
use Rattle.std.proofs.lemmas.Grind.{same_number_lists}
use Rattle.std.proofs.lemmas.List.{length-replicate, get_or-replicate}
use Rattle.std.proofs.lemmas.List.FromFn.{length-map-range_with_len, get_or-map-range_with_len}
use Rattle.clover_plain.specs.Blank.{number_at, numbers_of}

-- how many there are, and the one at a place
pub length_numbers : (banks : List (List ℕ)) (size : ℕ) → length (numbers_of banks size) ≡ size
length_numbers banks size = length-map-range_with_len (number_at banks) 0 size

pub at_place : (banks : List (List ℕ)) (size i : ℕ) → i < size → get_or (numbers_of banks size) i 0 ≡ number_at banks i
at_place banks size i below = get_or-map-range_with_len (number_at banks) 0 size i i 0 below (omega arith)

-- a place in the list is below its size
pub below_size : (banks : List (List ℕ)) (size at : ℕ) (all : List ℕ) → numbers_of banks size ≡ all → at < length all → at < size
below_size banks size at all is below = subst (λ (n : ℕ). at < n) (length_numbers banks size) (subst (λ (l : List ℕ). at < length l) (sym is) below)

-- a bank of zeros, or none
no_bank : (count k : ℕ) → get_or (replicate {A = List ℕ} count []) k [] ≡ []
no_bank zero k = refl
no_bank (suc n) zero = refl
no_bank (suc n) (suc k) = no_bank n k

pub all_zero : (count size : ℕ) → numbers_of (replicate count []) size ≡ replicate size 0
all_zero count size = same_number_lists (numbers_of (replicate count []) size) (replicate size 0) (length_numbers (replicate count []) size ∙ sym (length-replicate size 0))
    (λ k below. let here : k < size = subst (λ (n : ℕ). k < n) (length_numbers (replicate count []) size) below in
    at_place (replicate count []) size k here ∙ ap (λ (b : List ℕ). get_or b (k % 32768) 0) (no_bank count (k / 32768)) ∙ sym (get_or-replicate size k 0 0 here))

module _ (banks : List (List ℕ)) (size at number : ℕ) (bank : List ℕ) (within : at < size) (there : at / 32768 < length banks)
    (is : get_or bank (at % 32768) 0 ≡ number) (others : (i : ℕ) → i ≢ at % 32768 → get_or bank i 0 ≡ get_or (get_or banks (at / 32768) []) i 0) where
  abbrev after : List (List ℕ)
  after = set banks (at / 32768) bank

  -- a number of the bank that was written, and one of another bank
  in_bank : (k : ℕ) → k / 32768 ≡ at / 32768 → number_at after k ≡ get_or bank (k % 32768) 0
  in_bank k same = rw same (ap (λ (b : List ℕ). get_or b (k % 32768) 0) (get_or-set_same banks (at / 32768) bank [] there))

  here_now : number_at after at ≡ number
  here_now = in_bank at refl ∙ is

  stays : (k : ℕ) → k ≢ at → number_at after k ≡ number_at banks k
  stays k other = ⊎_elim
      (λ same. in_bank k same ∙ others (k % 32768) (λ e. other (omega (arith, same, e))) ∙ ap (λ (n : ℕ). get_or (get_or banks n []) (k % 32768) 0) (sym same))
      (λ elsewhere. ap (λ (b : List ℕ). get_or b (k % 32768) 0) (get_or-set_other banks (at / 32768) (k / 32768) bank [] elsewhere))
      (cases_eq (k / 32768) (at / 32768))

  abbrev old : List ℕ
  old = numbers_of banks size

  number_is : (k : ℕ) → k < size → number_at after k ≡ get_or (set old at number) k 0
  number_is k below = ⊎_elim
      (λ e. subst (λ (n : ℕ). number_at after n ≡ get_or (set old at number) n 0) (sym e) (here_now ∙ sym (get_or-set_same old at number 0 (subst (λ (n : ℕ). at < n) (sym (length_numbers banks size)) within))))
      (λ other. stays k other ∙ sym (at_place banks size k below) ∙ sym (get_or-set_other old at k number 0 other))
      (cases_eq k at)

  pub written : numbers_of (set banks (at / 32768) bank) size ≡ set (numbers_of banks size) at number
  written = same_number_lists (numbers_of after size) (set old at number) (length_numbers after size ∙ sym (length_numbers banks size) ∙ sym (length-set old at number))
      (λ k below. let here : k < size = subst (λ (n : ℕ). k < n) (length_numbers after size) below in at_place after size k here ∙ number_is k here)
