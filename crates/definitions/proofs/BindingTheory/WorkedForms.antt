-- Blocks that are well formed, by the law and by hand.
use Rattle.std.proofs.Common.{refl, lit≤, lit<, [], arith}
use Rattle.std.proofs.lemmas.Int.{ints}
use Rattle.definitions.specs.Invariant.{IsDatabase}
use Rattle.definitions.specs.Binding.BoundForm.{bound_form}
use Rattle.definitions.specs.Binding.Formed.{AreWritten, AreFormed}
use Rattle.definitions.specs.Examples.Binding.{t_and_u, faultless, FormedBlocks}
use Rattle.definitions.proofs.BindingTheory.WorkedBindings.{faultless_is_accepted, correlated_is_formed}
use Rattle.definitions.proofs.BindingTheory.AcceptedQueries.{accepted_queries_are_formed}

t_and_u_is_database : IsDatabase t_and_u
t_and_u_is_database = record {
  tables = lit≤ tt;
  distinct = ((refl, tt), (tt, tt));
  each = (
    record {
      columns = lit≤ tt;
      rows = lit≤ tt;
      indexes = lit≤ tt;
      primary = lit≤ tt;
      distinct = ((refl, tt), (tt, tt));
      types = (tt, ((lit≤ tt, lit≤ tt), tt));
      typed = (((refl, (omega (arith, ints), omega (arith, ints))), (tt, tt)), tt);
      no_nulls = ((refl, (refl, tt)), tt);
      each_index = tt;
      apart = tt;
      row_count = lit≤ tt;
      page_count = (lit≤ tt, lit≤ tt);
    },
    (
      record {
        columns = lit≤ tt;
        rows = lit≤ tt;
        indexes = lit≤ tt;
        primary = lit≤ tt;
        distinct = (tt, tt);
        types = (tt, tt);
        typed = (((refl, (omega (arith, ints), omega (arith, ints))), tt), (((refl, (omega (arith, ints), omega (arith, ints))), tt), tt));
        no_nulls = ((refl, tt), ((refl, tt), tt));
        each_index = tt;
        apart = tt;
        row_count = lit≤ tt;
        page_count = (lit≤ tt, lit≤ tt);
      },
      tt,
    ),
  );
}

-- SELECT X FROM T WHERE X = 1
faultless_is_written : AreWritten t_and_u faultless
faultless_is_written = (((tt, (tt, ((lit< tt, lit≤ tt), (tt, tt)))), lit< tt), tt)

faultless_is_formed : AreFormed t_and_u (bound_form t_and_u faultless) [] 0
faultless_is_formed = accepted_queries_are_formed t_and_u faultless t_and_u_is_database faultless_is_written faultless_is_accepted

pub formed_blocks : FormedBlocks
formed_blocks = record {
  correlated_binds = refl;
  correlated_is_formed = correlated_is_formed;
  key_past_items = λ h. omega (arith, h.order.0);
  inner_block_in_front = λ h. omega (arith, h.condition.2.0);
  faultless_is_formed = faultless_is_formed;
  ten_of_one_digit = λ h. omega (arith, h);
}
