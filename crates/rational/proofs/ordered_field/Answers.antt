use Rattle.rational.proofs.Rationals as Q
use Rattle.rational.proofs.ordered_field.Goals as goal

pub returns : goal.returns
returns c = record {
  add_comm = Q.add_comm;
  add_assoc = Q.add_assoc;
  zero_add = Q.zero_add;
  neg_add = Q.neg_add;
  mul_comm = Q.mul_comm;
  mul_assoc = Q.mul_assoc;
  one_mul = Q.one_mul;
  mul_add = Q.mul_add;
  inv_mul = Q.inv-mul;
  le_refl = Q.le_refl;
  le_trans = Q.le_trans;
  le_antisym = Q.le_antisym;
  le_total = Q.le_total;
  add_le = Q.add_le;
  mul_nonneg = Q.mul_nonneg;
}
