-- Texts that a row puts one after another.
use Rattle.std.proofs.Common.{◌≡◌, ◌++◌, ℕ, List, Result, Ok, Err, OnOk, ap, ◌∙◌, append_assoc}

-- one more text, behind those that were put
pub text_then : (p a b x y : List ℕ) → a ≡ p ++ x → b ≡ a ++ y → b ≡ p ++ (x ++ y)
text_then p a b x y before put = put ∙ ap (λ (l : List ℕ). l ++ y) before ∙ append_assoc p x y

-- the last one, with which a row ends
pub texts_end : {T E : Type 0} (r : Result T E) (p a z x y : List ℕ) → a ≡ p ++ x → OnOk r (z ≡ a ++ y) → OnOk r (z ≡ p ++ (x ++ y))
texts_end (Ok t) p a z x y before put = text_then p a z x y before put
texts_end (Err e) p a z x y before put = tt
