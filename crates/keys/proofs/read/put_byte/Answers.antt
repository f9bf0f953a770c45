use Rattle.page.proofs.ScanLaws.{tests}
use Rattle.keys.specs.Numbers.{push}
use Rattle.keys.proofs.read.put_byte.Goals as goal

pub returns-then-n-lt72057594037927936 : goal.returns-then-n-lt72057594037927936
unfolding push
returns-then-n-lt72057594037927936 c = search tests

pub returns-else-n-lt72057594037927936 : goal.returns-else-n-lt72057594037927936
unfolding push
returns-else-n-lt72057594037927936 c = search tests
