-- A key's lane by its MD5 modulo the least number that each number of lanes divides.
use Rattle.std.proofs.Common.{◌≡◌, ℕ, zero, suc, ◌≤◌, arith}
use Rattle.std.specs.Prelude.{◌%◌}

-- that number is 2520
pub lane_mixed : (n f : ℕ) → 1 ≤ f → f ≤ 10 → n % 2520 % f ≡ n % f
lane_mixed n zero some most = omega (arith, some)
lane_mixed n (suc zero) some most = omega arith
lane_mixed n (suc (suc zero)) some most = omega arith
lane_mixed n (suc (suc (suc zero))) some most = omega arith
lane_mixed n (suc (suc (suc (suc zero)))) some most = omega arith
lane_mixed n (suc (suc (suc (suc (suc zero))))) some most = omega arith
lane_mixed n (suc (suc (suc (suc (suc (suc zero)))))) some most = omega arith
lane_mixed n (suc (suc (suc (suc (suc (suc (suc zero))))))) some most = omega arith
lane_mixed n (suc (suc (suc (suc (suc (suc (suc (suc zero)))))))) some most = omega arith
lane_mixed n (suc (suc (suc (suc (suc (suc (suc (suc (suc zero))))))))) some most = omega arith
lane_mixed n (suc (suc (suc (suc (suc (suc (suc (suc (suc (suc zero)))))))))) some most = omega arith
lane_mixed n (suc (suc (suc (suc (suc (suc (suc (suc (suc (suc (suc f))))))))))) some most = omega (arith, most)
