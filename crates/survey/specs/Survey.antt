-- The rows of zero bytes drawn for one coefficient of GF(2^8): they end with a byte that is not zero, or with refusal 10 at the sixteenth zero.
use Rattle.words.specs.Words.{ℕ, List, suc, zero, cond, leb, eqb, max}
use Rattle.tinymt.specs.Generator.{start_of, draw_of, low4, low8}
use Rattle.coefficients.specs.Coefficients.{last_zero, byte_of}
use Rattle.survey.specs.declared.Counted.{Counted}

-- the zero bytes drawn from the words s before a byte that is not zero, at most n
unfoldable pub zeros_from : ℕ → List ℕ → ℕ
zeros_from zero s = 0
zeros_from (suc n) s =
    let d = draw_of s in
    let more = suc (zeros_from n d.state) in
    cond (eqb (low8 d.value) 0) more 0

-- the zero bytes drawn for one coefficient: a draw of rand16 is none of them, whatever its low byte
unfoldable pub zeros_of : ℕ → List ℕ → ℕ
zeros_of dt s =
    let d = draw_of s in
    let dense = zeros_from last_zero s in
    let sparse = zeros_from last_zero d.state in
    cond (eqb dt 15) dense (cond (leb (low4 d.value) dt) sparse 0)

-- with the words after the coefficient
abbrev pub counted : ℕ → List ℕ → Counted
counted dt s = record { zeros = zeros_of dt s; state = (byte_of dt s).state }

-- the words after the first n coefficients of a key, refused ones too
unfoldable pub words_after : ℕ → ℕ → ℕ → List ℕ
words_after dt key zero = start_of key
words_after dt key (suc n) = (byte_of dt (words_after dt key n)).state

-- the largest value of f below n
unfoldable pub largest : (ℕ → ℕ) → ℕ → ℕ
largest f zero = 0
largest f (suc n) = max (largest f n) (f n)

-- the longest row of one of the first `count` coefficients: for a key, for the keys below `keys`, and at the density thresholds below `thresholds`
abbrev pub longest_of_key : (dt count key : ℕ) → ℕ
longest_of_key dt count key = largest (λ i. zeros_of dt (words_after dt key i)) count

abbrev pub longest_at : (count keys dt : ℕ) → ℕ
longest_at count keys dt = largest (λ key. longest_of_key dt count key) keys

abbrev pub longest_within : (count keys thresholds : ℕ) → ℕ
longest_within count keys thresholds = largest (λ dt. longest_at count keys dt) thresholds

-- within our sizes: 255 coefficients, every key, every density threshold
abbrev pub longest_zeros : ℕ
longest_zeros = longest_within 255 65536 16
