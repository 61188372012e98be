use Rattle.std.proofs.Common.{[]}
use Rattle.cert_meaning.proofs.Places.{as_many, each_row, first_rows, one_more, one_more_small}
use Rattle.cert_meaning.proofs.laws.cut_rows_go_on.Goals as goal

pub returns : goal.returns
returns c = record {
  places = λ m total weight cuts rows are. record {
    as_many = as_many m total weight [] cuts rows are;
    each = λ k cut row less. each_row m total weight cuts rows k cut row are less;
    first = λ k. first_rows m total weight cuts rows k are;
  };
  more = λ m total weight cuts rows cut row are is. one_more m total weight cuts rows cut row are is;
  small = λ m total cuts rows cut row are is. one_more_small m total cuts rows cut row are is;
}
