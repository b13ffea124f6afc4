-- Numbers put at a place of a list, one by one; and a port's numbers, group by group.
-- Assumes nothing.
use mathlib.Core.Path.{◌≡◌, sym, ap, ◌∙◌}
use mathlib.Core.List.{List, ◌++◌}
use Prim.Native.Nat.{ℕ, ◌+◌}
use native.Mathlib.Omega.{arith}
use lib.ListN.{length, take}
use lib.Seq.{take_all}
use Rattle.port.specs.declared.Port.{Port}
use Rattle.sci.specs.declared.Sci.{Sci}
use Rattle.capi.specs.State.{register_list, power_list, number_list, tx_list, rx_list, line_list, port_list, baud_list, encode}

-- a group after those that stand
join : (before q l m t : List ℕ) (at : ℕ) → q ≡ before → l ≡ m → take (at + length l) t ≡ q ++ l → take (at + length m) t ≡ before ++ m
join before q l m t at h k e =
    ap (λ (x : List ℕ). take (at + length x) t) (sym k) ∙ e ∙ (λ i. h i ++ k i)

pub stored : (p : Port) (q a b c x y z : List ℕ) → x ≡ tx_list p.tx → y ≡ rx_list p.rx → z ≡ line_list p → q ≡ register_list p ++ (power_list p ++ number_list p.holding) → take (19 + length x) a ≡ q ++ x
    → take (31 + length y) b ≡ take 31 a ++ y → take (44 + length z) c ≡ take 44 b ++ z → take 53 c ≡ port_list p
unfolding port_list
stored p q a b c x y z hx hy hz h ea eb ec =
    join _ (take 44 b) z (line_list p) c 44
    (join _ (take 31 a) y (rx_list p.rx) b 31
    (join _ q x (tx_list p.tx) a 19 h hx ea) hy eb) hz ec

pub state_stored : (s : Sci) (a c z : List ℕ) → z ≡ baud_list s.baud → take 53 a ≡ port_list s.port → take (53 + length z) c ≡ take 53 a ++ z → length c ≡ 56 → c ≡ encode s
unfolding encode
state_stored s a c z hz ea ec len = sym (take_all 56 c (omega (arith, len))) ∙ join _ (take 53 a) z (baud_list s.baud) c 53 ea hz ec
