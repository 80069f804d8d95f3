-- A word in parts: the bits so far and those to come.
use Rattle.std.proofs.Common.{◌≡◌, ◌∙◌, refl, sym, ap, ap₂, ℕ, ◌+◌, ◌*◌, ◌%◌, ◌<◌, ◌≤◌, ◌^◌, List, ◌++◌, Bool, length, take, drop, get_or, arith}
use Rattle.std.specs.Prelude.{map}
use Rattle.std.specs.Int.{from_bool}
use Rattle.std.proofs.lemmas.List.{length-map, length-take-le, length-drop, take-append-drop, drop-drop, map-append}
use Rattle.std.proofs.lemmas.Nat.{pow-add}
use Rattle.std.proofs.Math.Nat.{mul_assoc, mul_comm, mul-add, pow-le-pow_right, mod-eq_of_lt}
use Rattle.std.proofs.Math.Seq.{drop-cons}
use Rattle.definitions.specs.Scanning.{word_of}
use Rattle.columns.proofs.WordFlags.{flag_number, word_of-append, word_of-below}

spread : (a b w v : ℕ) → 2 ^ a * (w + 2 ^ b * v) ≡ w * 2 ^ a + 2 ^ (a + b) * v
spread a b w v = mul-add (2 ^ a) w (2 ^ b * v) ∙ ap₂ (λ x y. x + y) (mul_comm (2 ^ a) w) (sym (mul_assoc (2 ^ a) (2 ^ b) v) ∙ ap (λ k. k * v) (sym (pow-add 2 a b)))

rest_parted : {X : Type 0} (p : X → Bool) (us : List X) (at n next : ℕ) → at + n ≡ next → next ≤ length us
    → 2 ^ at * word_of (map p (drop at us)) ≡ word_of (map p (take n (drop at us))) * 2 ^ at + 2 ^ next * word_of (map p (drop next us))
rest_parted p us at n next e h =
    let front = take n (drop at us) in
    let back = drop next us in
    let parts : drop at us ≡ front ++ back = sym (take-append-drop n (drop at us)) ∙ ap (λ b. front ++ b) (drop-drop n at us ∙ ap (λ k. drop k us) e) in
    let long : length (map p front) ≡ n = length-map front p ∙ length-take-le n (drop at us) (omega (arith, length-drop at us)) in
    let whole : word_of (map p (drop at us)) ≡ word_of (map p front) + 2 ^ n * word_of (map p back) =
    ap (λ xs. word_of (map p xs)) parts ∙ ap word_of (map-append p front back) ∙ word_of-append (map p front) (map p back)
    ∙ ap (λ k. word_of (map p front) + 2 ^ k * word_of (map p back)) long in
    ap (λ w. 2 ^ at * w) whole ∙ spread at n (word_of (map p front)) (word_of (map p back))
    ∙ ap (λ k. word_of (map p front) * 2 ^ at + 2 ^ k * word_of (map p back)) e

-- the next bits, so many, put to those so far
pub bits_put : {X : Type 0} (p : X → Bool) (us : List X) (at n next total word bits : ℕ) → at + n ≡ next → next ≤ length us → total < 2 ^ 64
    → bits ≡ word_of (map p (take n (drop at us))) → word + 2 ^ at * word_of (map p (drop at us)) ≡ total
    → (word + bits * 2 ^ at % 2 ^ 64 < 2 ^ 64) × (word + bits * 2 ^ at % 2 ^ 64 + 2 ^ next * word_of (map p (drop next us)) ≡ total)
bits_put p us at n next total word bits e h small f g =
    let later = 2 ^ next * word_of (map p (drop next us)) in
    let parted : 2 ^ at * word_of (map p (drop at us)) ≡ bits * 2 ^ at + later = rw f (rest_parted p us at n next e h) in
    let kept : bits * 2 ^ at % 2 ^ 64 ≡ bits * 2 ^ at = mod-eq_of_lt (omega arith) in
    rw kept (omega arith, omega arith)

-- the same of one bit
pub bit_put : {X : Type 0} (p : X → Bool) (us : List X) (at total word bit : ℕ) (d : X) → at < length us → total < 2 ^ 64
    → bit ≡ from_bool (p (get_or us at d)) → word + 2 ^ at * word_of (map p (drop at us)) ≡ total
    → (word + bit * 2 ^ at % 2 ^ 64 < 2 ^ 64) × (word + bit * 2 ^ at % 2 ^ 64 + 2 ^ (at + 1) * word_of (map p (drop (at + 1) us)) ≡ total)
bit_put p us at total word bit d h small f g =
    let own : bit ≡ word_of (map p (take 1 (drop at us))) = f ∙ flag_number (p (get_or us at d)) ∙ rw (drop-cons us at d h) (omega arith) in
    bits_put p us at 1 (at + 1) total word bit refl (omega arith) small own g

pub word_below : {X : Type 0} (p : X → Bool) (us : List X) → length us ≤ 64 → word_of (map p us) < 2 ^ 64
word_below p us h =
    let own = word_of-below (map p us) in
    let grown : 2 ^ length (map p us) ≤ 2 ^ 64 = pow-le-pow_right {n = 2} (omega arith) {i = length (map p us)} {j = 64} (omega (arith, length-map us p)) in
    omega (arith, grown)

pub rest_below : {X : Type 0} (p : X → Bool) (us : List X) (first : ℕ) → first ≤ length us → length us ≤ 64 → 2 ^ first * word_of (map p (drop first us)) < 2 ^ 64
rest_below p us first h few = omega (arith, rest_parted p us 0 first first (omega arith) h, word_below p us few)

-- nothing is to come behind what is put last
pub bits_ended : {X : Type 0} (p : X → Bool) (us : List X) (at at' total word rest : ℕ) → at ≡ at' → rest ≡ 2 ^ at' * word_of (map p (drop at' us))
    → word + 2 ^ at * word_of (map p (drop at us)) ≡ total → word + rest ≡ total
bits_ended p us at at' total word rest e f g = rw (f, ← e) g
