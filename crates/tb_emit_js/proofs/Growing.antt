-- A text that is written part by part.
use Rattle.std.proofs.Common.{◌≡◌, ℕ, List, ◌++◌, sym, ap, ◌∙◌, append_assoc}

pub grow2 : (o0 o1 o2 a b t : List ℕ) → o1 ≡ o0 ++ a → o2 ≡ o1 ++ b → t ≡ a ++ b → o2 ≡ o0 ++ t
grow2 o0 o1 o2 a b t f g e = g ∙ ap (λ x. x ++ b) f ∙ append_assoc o0 a b ∙ ap (λ x. o0 ++ x) (sym e)

-- two parts as one
both : (o1 o2 o3 a b : List ℕ) → o2 ≡ o1 ++ a → o3 ≡ o2 ++ b → o3 ≡ o1 ++ (a ++ b)
both o1 o2 o3 a b f g = g ∙ ap (λ x. x ++ b) f ∙ append_assoc o1 a b

pub grow3 : (o0 o1 o2 o3 a1 a2 a3 t : List ℕ) → o1 ≡ o0 ++ a1 → o2 ≡ o1 ++ a2 → o3 ≡ o2 ++ a3
    → t ≡ a1 ++ (a2 ++ a3) → o3 ≡ o0 ++ t
grow3 o0 o1 o2 o3 a1 a2 a3 t f1 f2 f3 e = grow2 o0 o1 o3 a1 (a2 ++ a3) t f1 (both o1 o2 o3 a2 a3 f2 f3) e

pub grow4 : (o0 o1 o2 o3 o4 a1 a2 a3 a4 t : List ℕ) → o1 ≡ o0 ++ a1 → o2 ≡ o1 ++ a2 → o3 ≡ o2 ++ a3 → o4 ≡ o3 ++ a4
    → t ≡ a1 ++ (a2 ++ (a3 ++ a4)) → o4 ≡ o0 ++ t
grow4 o0 o1 o2 o3 o4 a1 a2 a3 a4 t f1 f2 f3 f4 e = grow3 o0 o1 o2 o4 a1 a2 (a3 ++ a4) t f1 f2 (both o2 o3 o4 a3 a4 f3 f4) e

pub grow5 : (o0 o1 o2 o3 o4 o5 a1 a2 a3 a4 a5 t : List ℕ) → o1 ≡ o0 ++ a1 → o2 ≡ o1 ++ a2 → o3 ≡ o2 ++ a3 → o4 ≡ o3 ++ a4 → o5 ≡ o4 ++ a5
    → t ≡ a1 ++ (a2 ++ (a3 ++ (a4 ++ a5))) → o5 ≡ o0 ++ t
grow5 o0 o1 o2 o3 o4 o5 a1 a2 a3 a4 a5 t f1 f2 f3 f4 f5 e = grow4 o0 o1 o2 o3 o5 a1 a2 a3 (a4 ++ a5) t f1 f2 f3 (both o3 o4 o5 a4 a5 f4 f5) e

pub grow6 : (o0 o1 o2 o3 o4 o5 o6 a1 a2 a3 a4 a5 a6 t : List ℕ) → o1 ≡ o0 ++ a1 → o2 ≡ o1 ++ a2 → o3 ≡ o2 ++ a3 → o4 ≡ o3 ++ a4 → o5 ≡ o4 ++ a5 → o6 ≡ o5 ++ a6
    → t ≡ a1 ++ (a2 ++ (a3 ++ (a4 ++ (a5 ++ a6)))) → o6 ≡ o0 ++ t
grow6 o0 o1 o2 o3 o4 o5 o6 a1 a2 a3 a4 a5 a6 t f1 f2 f3 f4 f5 f6 e = grow5 o0 o1 o2 o3 o4 o6 a1 a2 a3 a4 (a5 ++ a6) t f1 f2 f3 f4 (both o4 o5 o6 a5 a6 f5 f6) e

pub grow7 : (o0 o1 o2 o3 o4 o5 o6 o7 a1 a2 a3 a4 a5 a6 a7 t : List ℕ) → o1 ≡ o0 ++ a1 → o2 ≡ o1 ++ a2 → o3 ≡ o2 ++ a3 → o4 ≡ o3 ++ a4 → o5 ≡ o4 ++ a5 → o6 ≡ o5 ++ a6 → o7 ≡ o6 ++ a7
    → t ≡ a1 ++ (a2 ++ (a3 ++ (a4 ++ (a5 ++ (a6 ++ a7))))) → o7 ≡ o0 ++ t
grow7 o0 o1 o2 o3 o4 o5 o6 o7 a1 a2 a3 a4 a5 a6 a7 t f1 f2 f3 f4 f5 f6 f7 e = grow6 o0 o1 o2 o3 o4 o5 o7 a1 a2 a3 a4 a5 (a6 ++ a7) t f1 f2 f3 f4 f5 (both o5 o6 o7 a6 a7 f6 f7) e

pub grow8 : (o0 o1 o2 o3 o4 o5 o6 o7 o8 a1 a2 a3 a4 a5 a6 a7 a8 t : List ℕ) → o1 ≡ o0 ++ a1 → o2 ≡ o1 ++ a2 → o3 ≡ o2 ++ a3 → o4 ≡ o3 ++ a4 → o5 ≡ o4 ++ a5 → o6 ≡ o5 ++ a6 → o7 ≡ o6 ++ a7 → o8 ≡ o7 ++ a8
    → t ≡ a1 ++ (a2 ++ (a3 ++ (a4 ++ (a5 ++ (a6 ++ (a7 ++ a8)))))) → o8 ≡ o0 ++ t
grow8 o0 o1 o2 o3 o4 o5 o6 o7 o8 a1 a2 a3 a4 a5 a6 a7 a8 t f1 f2 f3 f4 f5 f6 f7 f8 e = grow7 o0 o1 o2 o3 o4 o5 o6 o8 a1 a2 a3 a4 a5 a6 (a7 ++ a8) t f1 f2 f3 f4 f5 f6 (both o6 o7 o8 a7 a8 f7 f8) e
