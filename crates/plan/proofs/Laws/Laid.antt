-- What the words of one chain leave in the array, descriptor by descriptor: a run of stores word by word, a chain word by word, and the two together.
use Rattle.std.proofs.Common.{◌≡◌, ℕ, zero, suc, ◌+◌, ◌-◌, ◌*◌, ◌<◌, ◌≤◌, Bool, true, false, List, [], ◌∷◌, length, get_or, set, refl, ap, ◌∙◌, ⊎_elim, add-zero, suc-mul, eq-or-lt_of_le, zero-mul, arith, length-set, get_or-set_other, get_or-set_same}
use mathlib.Core.Path.{subst⁻¹}
use native.Mathlib.Decide.{dec_lt}
use lib.Seq.{sets, length-sets}
use Rattle.words.specs.Words.{initial_len, chain_status}
use Rattle.plan.specs.Planning.{chunk_of, chain_words}
use Rattle.plan.proofs.Laws.Chains.{length_chain}

-- one number is below another, or not
pub either : {A : Type 0} (a b : ℕ) → (a < b → A) → (b ≤ a → A) → A
either a b f g = elim (dec_lt a b) [ yes h ↦ f h | no h ↦ g (omega arith) ]

-- ---- a run of stores, word by word

sets_before : (l vs : List ℕ) (i j : ℕ) → j < i → get_or (sets l i vs) j 0 ≡ get_or l j 0
sets_before l [] i j h = refl
sets_before l (v ∷ vs) i j h = sets_before (set l i v) vs (suc i) j (omega arith) ∙ get_or-set_other l i j v 0 (omega arith)

sets_behind : (l vs : List ℕ) (i j : ℕ) → i + length vs ≤ j → get_or (sets l i vs) j 0 ≡ get_or l j 0
sets_behind l [] i j h = refl
sets_behind l (v ∷ vs) i j h = sets_behind (set l i v) vs (suc i) j (omega arith) ∙ get_or-set_other l i j v 0 (omega arith)

sets_at : (l vs : List ℕ) (i k : ℕ) → i + length vs ≤ length l → k < length vs → get_or (sets l i vs) (i + k) 0 ≡ get_or vs k 0
sets_at l [] i k f h = absurd (omega arith)
sets_at l (v ∷ vs) i zero f h = rw add-zero (sets_before (set l i v) vs (suc i) i (omega arith) ∙ get_or-set_same l i v 0 (omega arith))
sets_at l (v ∷ vs) i (suc k) f h =
    let e : i + suc k ≡ suc i + k = omega arith in
    ap (λ (j : ℕ). get_or (sets (set l i v) (suc i) vs) j 0) e ∙ sets_at (set l i v) vs (suc i) k (simp length-set (omega arith)) (omega arith)

-- ---- a chain, word by word

-- two words on in the list, one descriptor on in the chain
twice : (i : ℕ) → 2 * suc i ≡ suc (suc (2 * i))
twice i = omega arith

chain_inner :
    (m : ℕ) (is_in : Bool) (n len addr i : ℕ) → i + 1 < n → get_or (chain_words m is_in n len addr) (2 * i) 0 ≡ chain_status (initial_len (chunk_of m) m is_in) false
chain_inner m is_in zero len addr i h = absurd (omega arith)
chain_inner m is_in (suc zero) len addr i h = absurd (omega arith)
chain_inner m is_in (suc (suc n)) len addr zero h = refl
chain_inner m is_in (suc (suc n)) len addr (suc i) h =
    ap (λ (j : ℕ). get_or (chain_words m is_in (suc (suc n)) len addr) j 0) (twice i)
    ∙ chain_inner m is_in (suc n) (len - chunk_of m) (addr + chunk_of m) i (omega arith)

chain_end :
    (m : ℕ) (is_in : Bool) (n len addr : ℕ) → get_or (chain_words m is_in (suc n) len addr) (2 * n) 0 ≡ chain_status (initial_len (len - n * chunk_of m) m is_in) true
chain_end m is_in zero len addr =
    let all : len ≡ len - 0 * chunk_of m = omega (arith, zero-mul (chunk_of m)) in
    ap (λ (l : ℕ). chain_status (initial_len l m is_in) true) all
chain_end m is_in (suc n) len addr =
    let rest : len - chunk_of m - n * chunk_of m ≡ len - suc n * chunk_of m = omega (arith, suc-mul n (chunk_of m)) in
    ap (λ (j : ℕ). get_or (chain_words m is_in (suc (suc n)) len addr) j 0) (twice n) ∙ chain_end m is_in n (len - chunk_of m) (addr + chunk_of m)
    ∙ ap (λ (l : ℕ). chain_status (initial_len l m is_in) true) rest

chain_address : (m : ℕ) (is_in : Bool) (n len addr i : ℕ) → i < n → get_or (chain_words m is_in n len addr) (2 * i + 1) 0 ≡ addr + i * chunk_of m
chain_address m is_in zero len addr i h = absurd (omega arith)
chain_address m is_in (suc zero) len addr zero h = omega (arith, zero-mul (chunk_of m))
chain_address m is_in (suc zero) len addr (suc i) h = absurd (omega arith)
chain_address m is_in (suc (suc n)) len addr zero h = omega (arith, zero-mul (chunk_of m))
chain_address m is_in (suc (suc n)) len addr (suc i) h =
    let e : 2 * suc i + 1 ≡ suc (suc (2 * i + 1)) = omega arith in
    let place : addr + chunk_of m + i * chunk_of m ≡ addr + suc i * chunk_of m = omega (arith, suc-mul i (chunk_of m)) in
    ap (λ (j : ℕ). get_or (chain_words m is_in (suc (suc n)) len addr) j 0) e
    ∙ chain_address m is_in (suc n) (len - chunk_of m) (addr + chunk_of m) i (omega arith)
    ∙ place

-- ---- a part of the array

-- The descriptors from one number up to another have these status words and addresses, and all other words are as they were.
pub record Laid (status address : ℕ → ℕ) (from to : ℕ) (a b : List ℕ) : Type 0 where
  pub size : length b ≡ length a
  pub before : (j : ℕ) → j < 2 * from → get_or b j 0 ≡ get_or a j 0
  pub behind : (j : ℕ) → 2 * to ≤ j → get_or b j 0 ≡ get_or a j 0
  pub statuses : (k : ℕ) → from ≤ k → k < to → get_or b (2 * k) 0 ≡ status k
  pub addresses : (k : ℕ) → from ≤ k → k < to → get_or b (2 * k + 1) 0 ≡ address k

-- two parts, one behind the other
pub joined :
    (status address : ℕ → ℕ) (i j k : ℕ) (a b c : List ℕ) → i ≤ j → j ≤ k → Laid status address i j a b → Laid status address j k b c
    → Laid status address i k a c
joined status address i j k a b c h l p q =
    record {
      size = q.size ∙ p.size;
      before = λ w o. q.before w (omega arith) ∙ p.before w o;
      behind = λ w o. q.behind w o ∙ p.behind w (omega arith);
      statuses = λ d o u. either d j (λ y. q.before (2 * d) (omega arith) ∙ p.statuses d o y) (λ n. q.statuses d n u);
      addresses = λ d o u. either d j (λ y. q.before (2 * d + 1) (omega arith) ∙ p.addresses d o y) (λ n. q.addresses d n u);
    }

-- the words of one chain, stored from a descriptor on
pub chain_laid :
    (status address : ℕ → ℕ) (m : ℕ) (is_in : Bool) (n len addr base : ℕ) (a : List ℕ) → 0 < n → 2 * (base + n) ≤ length a
    → ((i : ℕ) → i + 1 < n → chain_status (initial_len (chunk_of m) m is_in) false ≡ status (base + i))
    → ((i : ℕ) → i + 1 ≡ n → chain_status (initial_len (len - i * chunk_of m) m is_in) true ≡ status (base + i))
    → ((i : ℕ) → i < n → addr + i * chunk_of m ≡ address (base + i))
    → Laid status address base (base + n) a (sets a (2 * base) (chain_words m is_in n len addr))
chain_laid status address m is_in n len addr base a some room inner end at =
    record {
      size = length-sets a (2 * base) ws;
      before = λ j h. sets_before a ws (2 * base) j h;
      behind = λ j h. sets_behind a ws (2 * base) j (omega (arith, size));
      statuses = λ k h l. place (λ (d : ℕ). get_or b (2 * d) 0 ≡ status d) k h (λ i e. word_status i (omega arith));
      addresses = λ k h l. place (λ (d : ℕ). get_or b (2 * d + 1) 0 ≡ address d) k h (λ i e. word_address i (omega arith));
    }
  where
    ws : List ℕ
    ws = chain_words m is_in n len addr

    b : List ℕ
    b = sets a (2 * base) ws

    size : length ws ≡ 2 * n
    size = length_chain m is_in n len addr

    place : (P : ℕ → Type 0) (k : ℕ) → base ≤ k → ((i : ℕ) → k ≡ base + i → P (base + i)) → P k
    place P k h f = let e : k ≡ base + (k - base) = omega arith in subst⁻¹ P e (f (k - base) e)

    last_status : (i : ℕ) → n ≡ suc i → get_or ws (2 * i) 0 ≡ status (base + i)
    last_status i e = ap (λ (x : ℕ). get_or (chain_words m is_in x len addr) (2 * i) 0) e ∙ chain_end m is_in i len addr ∙ end i (omega arith)

    word_status : (i : ℕ) → i < n → get_or b (2 * (base + i)) 0 ≡ status (base + i)
    word_status i h =
        let e : 2 * (base + i) ≡ 2 * base + 2 * i = omega arith in
        let more : i + 1 ≤ n = omega arith in
        ap (λ (j : ℕ). get_or b j 0) e ∙ sets_at a ws (2 * base) (2 * i) (omega (arith, size)) (omega (arith, size))
        ∙ ⊎_elim (λ z. last_status i (omega arith)) (λ z. chain_inner m is_in n len addr i z ∙ inner i z) (eq-or-lt_of_le more)

    word_address : (i : ℕ) → i < n → get_or b (2 * (base + i) + 1) 0 ≡ address (base + i)
    word_address i h =
        let e : 2 * (base + i) + 1 ≡ 2 * base + (2 * i + 1) = omega arith in
        ap (λ (j : ℕ). get_or b j 0) e ∙ sets_at a ws (2 * base) (2 * i + 1) (omega (arith, size)) (omega (arith, size))
        ∙ chain_address m is_in n len addr i h ∙ at i h
