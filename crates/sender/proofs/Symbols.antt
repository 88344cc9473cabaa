-- A sender's symbols have E bytes.
use Rattle.std.specs.Prelude.{◌≡◌, ◌+◌, ◌<◌, ◌-◌, ◌∷◌, ◌*◌, ◌++◌, ◌^◌, ◌/◌, Ok, Err}
use Rattle.words.specs.Words.{arith, ℕ, List, length, [], suc, zero, get_or, drop, take, mod-lt, not-suc-le-zero}
use Rattle.words.specs.Words.{le_of_suc-le-suc, lit<}
use Rattle.memory.specs.Number.{bytes, Bytes}
use Rattle.wire.specs.Packets.{zeros, chunks, symbol_count, adui, source_symbols, Sized}
use Rattle.wire.proofs.Adui.{symbols_sized}
use Rattle.sender.specs.Run.{SenderCall, added, repaired, Calls, symbols_of}
use Rattle.sender.specs.Claims.{SenderSymbols}
use Rattle.sender.proofs.Running.{run_valid}

-- ---- lists of bytes

bytes-cons : (x : ℕ) (l : List ℕ) → x < 256 → Bytes l → Bytes (x ∷ l)
bytes-cons x l h b zero = h
bytes-cons x l h b (suc i) = b i

bytes-append : (l k : List ℕ) → Bytes l → Bytes k → Bytes (l ++ k)
bytes-append [] k b c = c
bytes-append (x ∷ l) k b c = bytes-cons x (l ++ k) (b 0) (bytes-append l k (λ i. b (suc i)) c)

bytes-number : (n v : ℕ) → Bytes (bytes n v)
bytes-number zero v = λ i. lit< tt
bytes-number (suc n) v = bytes-cons _ (bytes n v) (mod-lt (v / 256 ^ n) (lit< tt)) (bytes-number n v)

bytes-zeros : (n : ℕ) → Bytes (zeros n)
bytes-zeros zero = λ i. lit< tt
bytes-zeros (suc n) = bytes-cons 0 (zeros n) (lit< tt) (bytes-zeros n)

bytes_take : (n : ℕ) (l : List ℕ) → Bytes l → Bytes (take n l)
bytes_take zero l b = λ i. lit< tt
bytes_take (suc n) [] b = b
bytes_take (suc n) (x ∷ l) b = bytes-cons x (take n l) (b 0) (bytes_take n l (λ i. b (suc i)))

bytes_drop : (n : ℕ) (l : List ℕ) → Bytes l → Bytes (drop n l)
bytes_drop zero l b = b
bytes_drop (suc n) [] b = b
bytes_drop (suc n) (x ∷ l) b = bytes_drop n l (λ i. b (suc i))

-- ---- symbols

-- every symbol's bytes are bytes
abbrev Small : List (List ℕ) → Type 0
Small [] = Unit {0}
Small (x ∷ xs) = Bytes x × Small xs

small_chunks : (n E : ℕ) (l : List ℕ) → Bytes l → Small (chunks n E l)
small_chunks zero E l b = tt
small_chunks (suc n) E l b = (bytes_take E l b, small_chunks n E (drop E l) (bytes_drop E l b))

small_symbols : (flow : ℕ) (adu : List ℕ) (E : ℕ) → flow < 256 → Bytes adu → Small (source_symbols flow adu E)
unfolding source_symbols adui
small_symbols flow adu E h b =
    let n = symbol_count E (length adu) * E - (3 + length adu) in
    let pad = zeros n in
    small_chunks (symbol_count E (length adu)) E (adui flow adu E)
    (bytes-cons flow (bytes 2 (length adu) ++ (adu ++ pad)) h (bytes-append (bytes 2 (length adu)) (adu ++ pad) (bytes-number 2 (length adu))
    (bytes-append adu pad b (bytes-zeros n))))

small_append : (xs ys : List (List ℕ)) → Small xs → Small ys → Small (xs ++ ys)
small_append [] ys a b = b
small_append (x ∷ xs) ys a b = (a.0, small_append xs ys a.1 b)

sized_append : (E : ℕ) (xs ys : List (List ℕ)) → Sized E xs → Sized E ys → Sized E (xs ++ ys)
sized_append E [] ys a b = b
sized_append E (x ∷ xs) ys a b = (a.0, sized_append E xs ys a.1 b)

sized_at : (E : ℕ) (xs : List (List ℕ)) → Sized E xs → (p : ℕ) → p < length xs → length (get_or xs p []) ≡ E
sized_at E [] s p h = absurd (not-suc-le-zero h)
sized_at E (x ∷ xs) s zero h = s.0
sized_at E (x ∷ xs) s (suc p) h = sized_at E xs s.1 p (le_of_suc-le-suc h)

small_at : (xs : List (List ℕ)) → Small xs → (p : ℕ) → Bytes (get_or xs p [])
small_at [] s p = λ i. lit< tt
small_at (x ∷ xs) s zero = s.0
small_at (x ∷ xs) s (suc p) = small_at xs s.1 p

taken_sized : (E : ℕ) → 0 < E → (l : List SenderCall) → Sized E (symbols_of E l)
taken_sized E z [] = tt
taken_sized E z (added flow adu out (Ok n) m' out' ∷ l) = sized_append E (source_symbols flow adu E) (symbols_of E l) (symbols_sized flow adu E z)
    (taken_sized E z l)
taken_sized E z (added flow adu out (Err n) m' out' ∷ l) = taken_sized E z l
taken_sized E z (repaired key dt count out r out' ∷ l) = taken_sized E z l

taken_small : (E : ℕ) (m : List ℕ) (l : List SenderCall) → Calls m l → Small (symbols_of E l)
taken_small E m [] c = tt
taken_small E m (added flow adu out (Ok n) m' out' ∷ l) (h, b, p, c) = small_append (source_symbols flow adu E) (symbols_of E l) (small_symbols flow adu E h b)
    (taken_small E m' l c)
taken_small E m (added flow adu out (Err n) m' out' ∷ l) (h, b, p, c) = taken_small E m' l c
taken_small E m (repaired key dt count out r out' ∷ l) (h, p, c) = taken_small E m l c

pub sender_symbols : SenderSymbols
sender_symbols t l r =
    let z : 0 < t.size = omega (arith, (run_valid t l r).size_least) in
    record {
      sized = sized_at t.size (symbols_of t.size l) (taken_sized t.size z l);
      small = small_at (symbols_of t.size l) (taken_small t.size r.after l r.calls);
    }
